use Rattle.std.proofs.Common.{◌≡◌, [], set, get_or, true, pos, ℤ, Option, Some, None, FitsSigned, ap, sym, subst, ◌∙◌}
use Rattle.std.proofs.lemmas.Int.{to_z-of_z}
use Rattle.std.proofs.lemmas.List.{get_or_default}
use mir.Syntax.{w128}
use Rattle.opt_frac.proofs.FitLemmas.{signed}
use Rattle.opt_frac.specs.Equations.{Equation}
use Rattle.opt_simplex.specs.Variables.{resting}
use Rattle.opt_simplex.specs.Tableau.{equation_at}
use Rattle.opt_simplex.specs.Choice.{sum_from}
use Rattle.opt_simplex.specs.Values.{Values, AreNotedBut, side_of}
use Rattle.opt_simplex.proofs.ValueSteps.{value-fits}
use Rattle.opt_simplex.proofs.NoteSteps.{value-of, noted-number, noted-wide}
use Rattle.opt_simplex.proofs.values.Values.note.Goals as goal
use Rattle.opt_simplex.proofs.values.Values.note.Goals.{After-value}

equation_is : (c : After-value) → c.index-equations-i.result ≡ equation_at c.args.tableau.now.equations c.args.i
equation_is c =
    c.index-equations-i.is
    ∙ ap (λ es. get_or es c.args.i c.index-equations-i.result) c.equations.ensures
    ∙ get_or_default c.args.tableau.now.equations c.args.i c.index-equations-i.result (record { basic = 0; lead = pos 1; terms = [] }) c.requires.inside

sum_is : (c : After-value) (answer : Option ℤ) → c.value.result ≡ answer
    → sum_from (resting c.args.variables.now c.args.tableau.now.at_high) (pos 0) (equation_at c.args.tableau.now.equations c.args.i).terms ≡ answer
sum_is c answer is =
    value-of c.args.variables.now c.args.tableau.now c.args.i c.at_high.result.now c.index-equations-i.result c.terms.result.now c.value.result answer
    c.at_high.ensures (equation_is c) c.terms.ensures.value c.value.ensures is

pub returns-in-Some : goal.returns-in-Some
returns-in-Some c =
    let first = (goal.at.returns-in-Some c).After-value in
    let sum : sum_from (resting c.args.variables.now c.args.tableau.now.at_high) (pos 0) (equation_at c.args.tableau.now.equations c.args.i).terms ≡ Some c.in-Some.number =
    sum_is first (Some c.in-Some.number) c.in-Some.is in
    let fits : FitsSigned w128 c.in-Some.number =
    signed c.in-Some.number (value-fits (resting c.args.variables.now c.args.tableau.now.at_high) (equation_at c.args.tableau.now.equations c.args.i).terms c.in-Some.number sum) in
    let side : c.side.result ≡ side_of c.args.variables.now (equation_at c.args.tableau.now.equations c.args.i) c.in-Some.number =
    (rw (to_z-of_z w128 c.in-Some.number fits) at c.side.ensures) ∙ ap (λ e. side_of c.args.variables.now e c.in-Some.number) (equation_is first) in
    rw (to_z-of_z w128 c.in-Some.number fits)
    (λ others h.
    subst (λ k. AreNotedBut c.args.variables.now c.args.tableau.now k others)
    (ap (λ s. record { wide = c.args.self.now.wide; numbers = set c.args.self.now.numbers c.args.i c.in-Some.number; sides = set c.args.self.now.sides c.args.i s }) (sym side)
    ∙ ap (λ (k : Values). record { wide = k.wide; numbers = set k.numbers c.args.i c.in-Some.number; sides = set k.sides c.args.i c.side.result }) (sym c.self.view_is))
    (noted-number c.args.variables.now c.args.tableau.now c.args.self.now c.args.i others h c.requires.inside c.in-Some.number sum))

pub returns-in-None : goal.returns-in-None
returns-in-None c =
    let first = (goal.at.returns-in-None c).After-value in
    λ others h.
    subst (λ k. AreNotedBut c.args.variables.now c.args.tableau.now k others)
    (ap (λ (k : Values). record { wide = true; numbers = k.numbers; sides = k.sides }) (sym c.self.view_is))
    (noted-wide c.args.variables.now c.args.tableau.now c.args.self.now c.args.i others h c.requires.inside (sum_is first None c.in-None.is))
