use Rattle.std.proofs.Common.{Contains, length, ap, sym, subst, ◌∙◌, arith}
use Rattle.opt_simplex.proofs.NoteSteps.{noted-none}
use Rattle.opt_simplex.proofs.values.Values.new.Goals as goal

pub refresh-requires-clause-others : goal.refresh-requires-clause-others
refresh-requires-clause-others c =
    noted-none c.args.variables.now c.args.tableau.now c.in_ok-values.values c.deref.result.now
    (omega (arith, c.in_ok-values.ensures.numbers, ap length c.equations-count.ensures))
    (omega (arith, c.in_ok-values.ensures.sides, ap length c.equations-count.ensures))
    c.in_ok-values.ensures.wide
    (λ i inside. subst (λ xs. Contains xs i) (sym c.deref.ensures.value) (c.in_ok-positions.ensures.all i (omega (arith, inside, ap length c.equations-count.ensures))))
