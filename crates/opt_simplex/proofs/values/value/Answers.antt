use Rattle.std.proofs.Common.{pos}
use Rattle.opt_simplex.specs.Variables.{resting}
use Rattle.opt_simplex.specs.Choice.{sum_from}
use Rattle.opt_simplex.proofs.ValueSteps.{sum_from-next, sum_from-end}
use Rattle.opt_simplex.proofs.values.value.Goals as goal

pub loop-term-preserved : goal.loop-term-preserved
loop-term-preserved c =
    sum_from-next (resting c.args.variables.now c.args.at_high.now) c.args.terms.now c.loop-term.term-index (0, pos 0) c.loop-term.total c.add_term-total.result
    (sum_from (resting c.args.variables.now c.args.at_high.now) (pos 0) c.args.terms.now) c.loop-term-test.true c.add_term-total.ensures c.loop-term.invariant

pub returns : goal.returns
returns c =
    sum_from-end (resting c.args.variables.now c.args.at_high.now) c.args.terms.now c.loop-term.term-index c.loop-term.total
    (sum_from (resting c.args.variables.now c.args.at_high.now) (pos 0) c.args.terms.now) c.loop-term-test.false c.loop-term.invariant
