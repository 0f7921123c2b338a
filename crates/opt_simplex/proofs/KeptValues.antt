-- A pivot changes the value of no equation that it leaves as it is.
use Rattle.std.proofs.Common.{◌≡◌, ◌≢◌, ℕ, if◌then◌else◌, Bool, false, ◌&&◌, List, [], ◌∷◌, get_or, ℤ, ◌+ℤ◌, ◌*ℤ◌, None, All, refl, ap, ◌∙◌}
use Rattle.std.specs.List.{slice_set}
use Rattle.std.proofs.lemmas.List.{get_or-set_other}
use Rattle.std.proofs.lemmas.List.Elements.{All-head, All-tail}
use Rattle.opt_frac.specs.Divisors.{fits}
use Rattle.opt_simplex.specs.Variables.{Variables, low_of, high_of, end_of_range, resting}
use Rattle.opt_simplex.specs.Choice.{sum_from}

-- only the variable whose end is set rests elsewhere
pub resting_other : (v : Variables) (at_high : List Bool) (b k : ℕ) (flag : Bool) → k ≢ b
    → resting v (slice_set at_high b flag) k ≡ resting v at_high k
resting_other v at_high b k flag apart = ap (λ f. end_of_range f (low_of v k) (high_of v k)) (get_or-set_other at_high b k flag false apart)

-- the sum is of the values at the terms alone
pub sum_from-same : (f g : ℕ → ℤ) (sum : ℤ) (es : List (ℕ × ℤ)) → All (λ e. f e.0 ≡ g e.0) es → sum_from f sum es ≡ sum_from g sum es
sum_from-same f g sum [] h = refl
sum_from-same f g sum (e ∷ es) h =
    let here : f e.0 ≡ g e.0 = All-head (λ d. f d.0 ≡ g d.0) e es h in
    ap (λ z. if fits (e.1 *ℤ z) && fits (sum +ℤ (e.1 *ℤ z)) then sum_from f (sum +ℤ (e.1 *ℤ z)) es else None) here
    ∙ ap (λ r. if fits (e.1 *ℤ g e.0) && fits (sum +ℤ (e.1 *ℤ g e.0)) then r else None)
    (sum_from-same f g (sum +ℤ (e.1 *ℤ g e.0)) es (All-tail (λ d. f d.0 ≡ g d.0) e es h))

-- the sum over terms stays when a variable that has none among them comes to rest
pub value_kept : (v : Variables) (at_high : List Bool) (b : ℕ) (flag : Bool) (sum : ℤ) (terms : List (ℕ × ℤ)) → All (λ term. term.0 ≢ b) terms
    → sum_from (resting v (slice_set at_high b flag)) sum terms ≡ sum_from (resting v at_high) sum terms
value_kept v at_high b flag sum terms apart =
    sum_from-same (resting v (slice_set at_high b flag)) (resting v at_high) sum terms
    (λ k d inside. resting_other v at_high b (get_or terms k d).0 flag (apart k d inside))
