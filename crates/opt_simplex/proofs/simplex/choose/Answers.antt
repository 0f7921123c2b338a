use Rattle.std.proofs.Common.{◌≡◌, Option, Some, None, All, option_map, ap, sym, subst, ◌∙◌}
use Rattle.std.proofs.lemmas.Result.{IfOk-weaker}
use Rattle.opt_frac.specs.Divisors.{Fits}
use Rattle.opt_simplex.specs.Variables.{resting}
use Rattle.opt_simplex.specs.Choice.{entering_from}
use Rattle.opt_simplex.specs.Outcomes.{leaving_at, look_at}
use Rattle.opt_simplex.specs.Rule.{leaving, entering, look_of}
use Rattle.opt_simplex.proofs.ValueSteps.{values-fit}
use Rattle.opt_simplex.proofs.NoteSteps.{noted-values, noted-chosen}
use Rattle.opt_simplex.proofs.simplex.choose.Goals as goal
use Rattle.opt_simplex.proofs.simplex.choose.Goals.{After-choose_leaving}

pub optimal-requires-clause-fit : goal.optimal-requires-clause-fit
optimal-requires-clause-fit c =
    subst (All Fits) (sym c.numbers.ensures)
    (values-fit (resting c.args.variables.now c.args.tableau.now.at_high) c.args.tableau.now.equations c.args.values.now.numbers
    (noted-values c.args.variables.now c.args.tableau.now c.args.values.now c.requires.noted c.requires.fit))

looked_is : (c : After-choose_leaving) → look_of c.args.variables.now c.args.done c.args.tableau.now
    ≡ leaving c.args.variables.now c.args.done c.args.tableau.now c.args.values.now.numbers (option_map (leaving_at c.equations.result.now) c.choose_leaving.result)
looked_is c =
    noted-chosen c.args.variables.now c.args.tableau.now c.args.values.now c.args.done c.sides.result.now c.equations.result.now
    (option_map (leaving_at c.equations.result.now) c.choose_leaving.result) c.requires.noted c.requires.fit c.equations.ensures c.sides.ensures
    c.choose_leaving.ensures.least

pub returns-in-Some : goal.returns-in-Some
returns-in-Some c =
    let first = (goal.at.returns-in-Some c).After-choose_leaving in
    let asks : look_of c.args.variables.now c.args.done c.args.tableau.now
    ≡ leaving c.args.variables.now c.args.done c.args.tableau.now c.args.values.now.numbers (Some (leaving_at c.args.tableau.now.equations c.in-Some.leaving)) =
    looked_is first
    ∙ ap (λ f. leaving c.args.variables.now c.args.done c.args.tableau.now c.args.values.now.numbers (option_map (leaving_at c.equations.result.now) f)) c.in-Some.is
    ∙ ap (λ es. leaving c.args.variables.now c.args.done c.args.tableau.now c.args.values.now.numbers (Some (leaving_at es c.in-Some.leaving))) c.equations.ensures in
    IfOk-weaker c.enter.result
    (λ look. look_at c.args.tableau.now.equations look
    ≡ leaving c.args.variables.now c.args.done c.args.tableau.now c.args.values.now.numbers (Some (leaving_at c.args.tableau.now.equations c.in-Some.leaving)))
    (λ look. look_at c.args.tableau.now.equations look ≡ look_of c.args.variables.now c.args.done c.args.tableau.now)
    (λ look h. h ∙ sym asks) c.enter.ensures

pub returns-in_ok-optimal-in-None : goal.returns-in_ok-optimal-in-None
returns-in_ok-optimal-in-None c =
    let first = (goal.at.returns-in_ok-optimal-in-None c).After-choose_leaving in
    c.in_ok-optimal-in-None.ensures
    ∙ ap (λ zs. leaving c.args.variables.now c.args.done c.args.tableau.now zs None) c.numbers.ensures
    ∙ ap (λ f. leaving c.args.variables.now c.args.done c.args.tableau.now c.args.values.now.numbers (option_map (leaving_at c.equations.result.now) f)) (sym c.in-None.is)
    ∙ sym (looked_is first)
