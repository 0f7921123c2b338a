-- The same lists of values meet an equation and the ones that a turn and an elimination make of it.
use Rattle.std.proofs.Common.{◌≡◌, ◌≢◌, ℕ, zero, suc, Bool, true, false, List, ℤ, pos, negsuc, neg_ℤ, ◌*ℤ◌, ◌≤ℤ◌, if◌then◌else◌, Some, refl, ap, sym, ◌∙◌, arith}
use Rattle.std.specs.Int.{is_positive}
use Rattle.std.proofs.lemmas.Int.{ints}
use Rattle.opt_sums.specs.Sums.{at}
use Rattle.opt_sums.specs.Entries.{coef}
use Rattle.opt_frac.specs.Equations.{Equation, Holds, HasTerm, IsReduced, SameValues, SameValuesWhere}
use Rattle.opt_frac.specs.Elimination.{solution_for, elimination}
use Rattle.opt_frac.specs.Replacing.{IsMade}
use Rattle.opt_frac.proofs.ReducedLemmas.{reduced-elimination, apart_from}
use Rattle.opt_frac.proofs.Steps.{gap, IsTurned, solution_for-is, IsReplaced, replacement-is}

gap_of : (e : Equation) (x : List ℤ) → Holds e x → gap e (at x) ≡ pos 0
gap_of e x h = omega (arith, ints, h)

holds_of : (e : Equation) (x : List ℤ) → gap e (at x) ≡ pos 0 → Holds e x
holds_of e x h = omega (arith, ints, h)

sign_zero : (b : Bool) (z : ℤ) → z ≡ pos 0 → (if b then neg_ℤ z else z) ≡ pos 0
sign_zero true z h = omega (arith, ints)
sign_zero false z h = h

zero_sign : (b : Bool) (z : ℤ) → (if b then neg_ℤ z else z) ≡ pos 0 → z ≡ pos 0
zero_sign true z h = omega (arith, ints)
zero_sign false z h = h

pub same_values-solution_for : (col : ℕ) (e : Equation) → col ≢ e.basic → coef e.terms col ≢ pos 0 → SameValues e (solution_for col e)
same_values-solution_for col e apart h =
    λ x.
    let is : IsTurned col e (solution_for col e) = solution_for-is col e apart h in (
      λ holds. holds_of (solution_for col e) x (is.each (at x) ∙ sign_zero (is_positive (coef e.terms col)) (gap e (at x)) (gap_of e x holds)),
      λ holds. holds_of e x (zero_sign (is_positive (coef e.terms col)) (gap e (at x)) (sym (is.each (at x)) ∙ gap_of (solution_for col e) x holds)),
    )

-- a factor above 0 of a product that is 0
factor_zero : (a b : ℤ) → pos 1 ≤ℤ a → a *ℤ b ≡ pos 0 → b ≡ pos 0
factor_zero (pos zero) b h k = absurd (omega (arith, ints))
factor_zero (pos (suc n)) (pos zero) h k = refl
factor_zero (pos (suc n)) (pos (suc m)) h k = absurd (omega (arith, ints))
factor_zero (pos (suc n)) (negsuc m) h k = absurd (omega (arith, ints))
factor_zero (negsuc n) b h k = absurd (omega (arith, ints))

pub same_values-elimination : (by old new : Equation) → pos 1 ≤ℤ by.lead → pos 1 ≤ℤ old.lead → elimination by old ≡ Some new → SameValuesWhere by old new
same_values-elimination by old new lead old_lead made =
    λ x meets.
    let is : IsReplaced by old new = replacement-is by old new lead old_lead made in
    let each : is.scale *ℤ gap new (at x) ≡ by.lead *ℤ gap old (at x) =
    is.each (at x) ∙ omega (arith, ints, ap (λ g. coef old.terms by.basic *ℤ g) (gap_of by x meets))
    in (
      λ holds. holds_of new x (factor_zero is.scale (gap new (at x)) is.scale_positive (each ∙ ap (λ g. by.lead *ℤ g) (gap_of old x holds) ∙ omega (arith, ints))),
      λ holds. holds_of old x (factor_zero by.lead (gap old (at x)) lead (sym each ∙ ap (λ g. is.scale *ℤ g) (gap_of new x holds) ∙ omega (arith, ints))),
    )

pub IsMade-elimination : (by old new : Equation) → IsReduced by → IsReduced old → HasTerm old by.basic → coef by.terms old.basic ≡ pos 0 → elimination by old ≡ Some new → IsMade by old new
IsMade-elimination by old new by_reduced old_reduced term none made = record {
  reduced = reduced-elimination by old new by_reduced.solved old_reduced.solved term (apart_from by.terms old.basic by_reduced.solved.rising by_reduced.solved.no_zero none) made;
  same_values = same_values-elimination by old new by_reduced.solved.lead_positive old_reduced.solved.lead_positive made;
}
