use Rattle.std.proofs.Common.{pos, ◌∙◌, sym}
use Rattle.opt_check.proofs.PointSteps.{unknown_later, unknown_here, unknown_end}
use Rattle.opt_check.proofs.point.first_unknown.Goals as goal

pub returns-then-entry-quantities : goal.returns-then-entry-quantities
returns-then-entry-quantities c =
    sym (c.loop-entry.invariant ∙ unknown_here c.args.quantities c.loop-entry.entry-index c.args.entries.now (0, pos 0) c.loop-entry-test.true c.if-entry-quantities.true)

pub loop-entry-preserved : goal.loop-entry-preserved
loop-entry-preserved c =
    c.loop-entry.invariant ∙ unknown_later c.args.quantities c.loop-entry.entry-index c.args.entries.now (0, pos 0) c.loop-entry-test.true c.if-entry-quantities.false

pub returns : goal.returns
returns c = sym (c.loop-entry.invariant ∙ unknown_end c.args.quantities c.loop-entry.entry-index c.args.entries.now c.loop-entry-test.false)
