use Rattle.std.proofs.Common.{◌+◌, ◌++◌, ◌≤◌, length, drop, subst, sym, arith}
use Rattle.opt_simplex.specs.Columns.{Follow}
use Rattle.opt_simplex.proofs.ColumnSteps.{rest-none, rest-drop, rest-end}
use Rattle.opt_simplex.proofs.columns.Columns.remove_rest.Goals as goal

pub loop-i-init : goal.loop-i-init
loop-i-init c = λ kept apart. rest-none c.args.position (kept ++ drop c.args.from c.args.terms.now) c.args.self.now

pub loop-i-preserved : goal.loop-i-preserved
loop-i-preserved c =
    λ kept apart.
    subst (Follow c.args.position (kept ++ drop c.args.from c.args.terms.now) (kept ++ drop (c.loop-i.i + 1) c.args.terms.now) c.args.self.now) (sym c.remove.ensures)
    (rest-drop c.args.position kept c.args.terms.now c.args.from c.loop-i.i c.args.self.now c.loop-i.self c.requires (omega (arith, c.loop-i.auto.i)) c.loop-i-test.true apart
    (c.loop-i.invariant kept apart))

pub returns : goal.returns
returns c =
    λ kept apart.
    rest-end c.args.position kept c.args.terms.now c.args.from c.loop-i.i c.args.self.now c.loop-i.self (omega (arith, c.loop-i-test.false)) (c.loop-i.invariant kept apart)
