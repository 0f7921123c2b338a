use Rattle.std.proofs.Common.{◌≡◌, ◌<◌, ◌^◌, pos, neg_ℤ, unsigned_abs, FitsSigned, refl, sym, subst, arith}
use Rattle.std.specs.Int.{is_positive}
use Rattle.std.proofs.lemmas.Int.{ints, to_z-of_z, fits_signed_from_abs}
use mir.Syntax.{w128}
use mir.Val.{to_z, of_z}
use Rattle.opt_sums.specs.Entries.{coef}
use Rattle.opt_frac.specs.Equations.{Equation, SameValues}
use Rattle.opt_frac.specs.Elimination.{negated_if, solution_for, whole, without}
use Rattle.opt_frac.proofs.Laws.{same_values-solution_for}
use Rattle.opt_frac.proofs.ReducedLemmas.{other_from}
use Rattle.opt_frac.proofs.SolutionLemmas.{fits-coef, reduced-solution_for}
use Rattle.opt_frac.proofs.equation.Equation.turn.Goals as goal
use Rattle.opt_frac.proofs.equation.Equation.turn.Goals.{After-coefficient-pivot, After-abs}

pivot : (c : After-coefficient-pivot) → c.coefficient-pivot.result ≡ coef c.args.self.now.terms c.args.col
pivot c = c.coefficient-pivot.ensures.value

pivot_fits : (c : After-coefficient-pivot) → unsigned_abs c.coefficient-pivot.result < 2 ^ 127
pivot_fits c = rw (pivot c) (fits-coef c.args.col c.args.self.now c.coefficient-pivot.ensures.reduced)

pub turned_terms-requires : goal.turned_terms-requires
turned_terms-requires c = λ e. other_from c.args.self.now c.args.col c.coefficient-pivot.ensures.reduced.solved c.requires (sym e)

pub abs-requires : goal.abs-requires
abs-requires c =
    let first = (goal.at.abs-requires c).After-coefficient-pivot in
    let fits : FitsSigned w128 c.coefficient-pivot.result = fits_signed_from_abs w128 c.coefficient-pivot.result (pivot_fits first) in
    rw (to_z-of_z w128 c.coefficient-pivot.result fits)
    (fits_signed_from_abs w128 (neg_ℤ c.coefficient-pivot.result) (omega (arith, ints, pivot_fits first)))

-- the equation that is made
abbrev solved_for : After-abs → Equation
solved_for c = record { basic = c.args.col; lead = to_z w128 (of_z w128 c.abs.result); terms = c.in_ok-terms.terms.items }

made : (c : After-abs) → solved_for c ≡ solution_for c.args.col c.args.self.now
unfolding solution_for
made c =
    let first = (goal.at.returns-clause-turned c).After-coefficient-pivot in
    let fits : FitsSigned w128 c.coefficient-pivot.result = fits_signed_from_abs w128 c.coefficient-pivot.result (pivot_fits first) in
    let lead : c.abs.result ≡ pos (unsigned_abs (coef c.args.self.now.terms c.args.col)) = rw (to_z-of_z w128 c.coefficient-pivot.result fits, pivot first) at c.abs.ensures.value in
    let terms : c.in_ok-terms.terms.items ≡ negated_if (is_positive (coef c.args.self.now.terms c.args.col)) (without c.args.col (whole c.args.self.now)) = rw (to_z-of_z w128 c.coefficient-pivot.result fits, pivot first) at c.in_ok-terms.ensures in
    rw (to_z-of_z w128 c.abs.result (record { sfits = c.abs.type_inv }), lead, terms) refl

pub invariant_of-result : goal.invariant_of-result
invariant_of-result c = rw (made c) (reduced-solution_for c.args.col c.args.self.now c.coefficient-pivot.ensures.reduced c.requires)

pub returns-clause-turned : goal.returns-clause-turned
returns-clause-turned c = made c

pub returns-clause-same_values : goal.returns-clause-same_values
returns-clause-same_values c =
    let Same : Equation → Type 0 = SameValues c.args.self.now in
    subst Same (sym (made c))
    (same_values-solution_for c.args.col c.args.self.now (other_from c.args.self.now c.args.col c.coefficient-pivot.ensures.reduced.solved c.requires) c.requires)
