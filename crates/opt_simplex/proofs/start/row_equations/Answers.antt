use Rattle.std.proofs.Common.{◌<◌, [], ◌∷◌, ◌++◌, length, ap, sym, ◌∙◌, arith}
use Rattle.opt_simplex.proofs.StartSteps.{row_equations-more}
use Rattle.opt_simplex.proofs.start.row_equations.Goals as goal

pub loop-i-preserved : goal.loop-i-preserved
loop-i-preserved c =
    let inside : c.loop-i.i < length c.args.system.now.rows = omega (arith, c.loop-i-test.true, c.rows-i-end.ensures.count) in
    c.in_ok-push.ensures.items
    ∙ ap (λ es. es ++ c.in_ok-row_equation.field-0 ∷ []) c.loop-i.invariant
    ∙ sym (row_equations-more (length c.args.system.now.cost) c.args.system.now.rows c.loop-i.i c.in_ok-row_equation.field-0 inside c.in_ok-row_equation.ensures)
