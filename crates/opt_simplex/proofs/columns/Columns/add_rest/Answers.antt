use Rattle.std.proofs.Common.{◌+◌, ◌≤◌, length, take, subst, sym, arith}
use Rattle.std.proofs.lemmas.List.{take_all}
use Rattle.opt_simplex.specs.Columns.{Follow}
use Rattle.opt_simplex.proofs.ColumnSteps.{rest-none, rest-add}
use Rattle.opt_simplex.proofs.columns.Columns.add_rest.Goals as goal

pub loop-i-init : goal.loop-i-init
loop-i-init c = rest-none c.args.position (take c.args.from c.args.terms.now) c.args.self.now

pub loop-i-preserved : goal.loop-i-preserved
loop-i-preserved c =
    subst (Follow c.args.position (take c.args.from c.args.terms.now) (take (c.loop-i.i + 1) c.args.terms.now) c.args.self.now) (sym c.in_ok-add.ensures)
    (rest-add c.args.position c.args.terms.now c.args.from c.loop-i.i c.args.self.now c.loop-i.self c.requires.rising c.requires.no_zero c.loop-i-test.true c.loop-i.invariant)

pub returns : goal.returns
returns c =
    subst (λ es. Follow c.args.position (take c.args.from c.args.terms.now) es c.args.self.now c.loop-i.self)
    (take_all c.loop-i.i c.args.terms.now (omega (arith, c.loop-i-test.false))) c.loop-i.invariant
