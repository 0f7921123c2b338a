use Rattle.std.proofs.Common.{◌≡◌, ◌<◌, length, arith}
use Rattle.opt_rows.proofs.MapSums.{sums_none, sums_more, sums_all}
use Rattle.opt_rows.proofs.sums.sums_of.Goals as goal

pub loop-entry-init : goal.loop-entry-init
loop-entry-init c = sums_none c.args.entries.now c.new-sums.result.entries c.new-sums.ensures.empty c.new-sums.ensures.ordered

pub loop-entry-preserved : goal.loop-entry-preserved
loop-entry-preserved c =
    let within : c.loop-entry.entry-index < length c.args.entries.now = omega (arith, c.loop-entry-test.true, c.loop-entry.auto.entry-index-end) in
    sums_more c.args.entries.now c.loop-entry.entry-index _ c.loop-entry.sums.entries c.add_entry.new.sums.entries c.loop-entry.invariant within
    c.add_entry.ensures.size c.in_ok-add_entry.ensures.ordered c.in_ok-add_entry.ensures.added

pub returns-clause-sums : goal.returns-clause-sums
returns-clause-sums c =
    let all : c.loop-entry.entry-index ≡ length c.args.entries.now = omega (arith, c.loop-entry-test.false, c.loop-entry.auto.entry-index-end) in
    sums_all c.args.entries.now c.loop-entry.entry-index c.loop-entry.sums.entries c.loop-entry.invariant all
