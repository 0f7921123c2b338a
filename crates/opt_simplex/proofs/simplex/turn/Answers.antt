use Rattle.std.proofs.Common.{ap, sym, ◌∙◌}
use Rattle.opt_simplex.specs.Outcomes.{leaving_at, look_at}
use Rattle.opt_simplex.proofs.NoteSteps.{noted-narrow}
use Rattle.opt_simplex.proofs.simplex.turn.Goals as goal

pub pivot-requires-clause-may : goal.pivot-requires-clause-may
pivot-requires-clause-may c =
    c.requires.may (leaving_at c.args.tableau.now.equations c.in-Enters.leaving) c.in-Enters.col
    (sym c.in_ok-end.ensures ∙ ap (look_at c.args.tableau.now.equations) c.in-Enters.is)

pub pivot-requires-clause-stays : goal.pivot-requires-clause-stays
pivot-requires-clause-stays c =
    c.requires.goes_on (leaving_at c.args.tableau.now.equations c.in-Enters.leaving) c.in-Enters.col
    (sym c.in_ok-end.ensures ∙ ap (look_at c.args.tableau.now.equations) c.in-Enters.is)

pub pivot-requires-clause-fit : goal.pivot-requires-clause-fit
pivot-requires-clause-fit c =
    noted-narrow c.args.variables.now c.args.tableau.now c.args.work.now.values c.requires.noted c.args.done
    (leaving_at c.args.tableau.now.equations c.in-Enters.leaving) c.in-Enters.col
    (sym c.in_ok-end.ensures ∙ ap (look_at c.args.tableau.now.equations) c.in-Enters.is)
