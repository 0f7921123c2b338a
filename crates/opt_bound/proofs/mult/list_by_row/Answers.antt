use Rattle.std.proofs.Common.{pos, arith, ◌∙◌}
use Rattle.std.proofs.lemmas.Int.{ints}
use Rattle.std.proofs.Math.ListN.{length-set}
use Rattle.opt_bound.proofs.KeptLemmas.{IsByRow-set}
use Rattle.opt_bound.proofs.mult.list_by_row.Goals as goal

pub loop-entry-preserved : goal.loop-entry-preserved
loop-entry-preserved c =
    (length-set c.loop-entry.by_row.items _ _ ∙ c.loop-entry.invariant.0, IsByRow-set c.loop-entry.by_row.items c.args.entries.now c.loop-entry.entry-index (0, pos 0) _ c.requires.rising c.loop-entry-test.true (omega (arith, c.requires.covers c.loop-entry.entry-index (0, pos 0) c.loop-entry-test.true, c.loop-entry.invariant.0, c.in_ok-by_row.ensures.len, c.in_ok-by_row.by_row.ok.0)) (omega (arith, ints)) c.loop-entry.invariant.1)
