-- An equation solved for another of its variables, and a variable replaced by what an equation says it is.
use Rattle.std.specs.Prelude.{ℕ, List, [], ◌∷◌, Bool, not, ◌&&◌, map, filter, ℤ, pos, neg_ℤ, ◌+ℤ◌, ◌*ℤ◌, unsigned_abs, int_div, nat_lt, ◌==◌, if◌then◌else◌, Option, Some, None}
use Rattle.std.specs.Int.{is_positive}
use Rattle.opt_sums.specs.Entries.{coef}
use Rattle.opt_frac.specs.Divisors.{gcd, fits, all_fit}
use Rattle.opt_frac.specs.Equations.{Equation, lowest}

-- the entries without those at k
abbrev pub without : ℕ → List (ℕ × ℤ) → List (ℕ × ℤ)
without k es = filter (λ e. not (e.0 == k)) es

-- each coefficient times g
abbrev pub multiple : ℤ → List (ℕ × ℤ) → List (ℕ × ℤ)
multiple g es = map (λ e. (e.0, g *ℤ e.1)) es

-- the entry in front, unless its coefficient is 0
abbrev pub unless_zero : ℕ × ℤ → List (ℕ × ℤ) → List (ℕ × ℤ)
unless_zero e es = if unsigned_abs e.1 == 0 then es else e ∷ es

-- one entry added to rising entries, in its place; a sum of 0 is dropped
abbrev pub more : ℕ × ℤ → List (ℕ × ℤ) → List (ℕ × ℤ)
more a [] = a ∷ []
more a (e ∷ es) =
    if nat_lt a.0 e.0
    then a ∷ e ∷ es
    else if nat_lt e.0 a.0
    then e ∷ more a es
    else unless_zero (e.0, a.1 +ℤ e.1) es

-- two lists of rising entries added, number by number; sums of 0 are dropped
abbrev pub merged_sum : List (ℕ × ℤ) → List (ℕ × ℤ) → List (ℕ × ℤ)
merged_sum [] ds = ds
merged_sum (e ∷ es) ds = more e (merged_sum es ds)

-- the equation as one sum that is 0: its terms, and its lead with the sign changed
abbrev pub whole : Equation → List (ℕ × ℤ)
whole e = more (e.basic, neg_ℤ e.lead) e.terms

-- the coefficients as they are, or with all signs changed
abbrev pub negated_if : Bool → List (ℕ × ℤ) → List (ℕ × ℤ)
negated_if negative es = if negative then map (λ e. (e.0, neg_ℤ e.1)) es else es

-- the same equation solved for the variable col, at which it has a term
unfoldable pub solution_for : ℕ → Equation → Equation
solution_for col e =
    record {
      basic = col;
      lead = pos (unsigned_abs (coef e.terms col));
      terms = negated_if (is_positive (coef e.terms col)) (without col (whole e));
    }

-- the equation with these terms, in lowest terms, where each part and each sum fits
abbrev pub summed_equation : ℕ → ℤ → List (ℕ × ℤ) → List (ℕ × ℤ) → Option Equation
summed_equation basic lead kept added =
    if fits lead && all_fit kept && all_fit added && all_fit (merged_sum kept added)
    then Some (lowest (record { basic = basic; lead = lead; terms = merged_sum kept added }))
    else None

-- the equation with the variable col replaced: it is taken g times, and the terms that stand for col f times
abbrev pub replacement : ℤ → ℤ → ℕ → List (ℕ × ℤ) → Equation → Option Equation
replacement g f col terms e =
    summed_equation e.basic (e.lead *ℤ g) (multiple g (without col e.terms)) (multiple f terms)

-- the equation with the basic variable of another one, at which it has a term, replaced by what that one says of it:
-- in lowest terms, or None where a product or a sum does not fit
unfoldable pub elimination : Equation → Equation → Option Equation
elimination by e =
    let w : ℕ = gcd (unsigned_abs by.lead) (unsigned_abs (coef e.terms by.basic)) in
    replacement (int_div by.lead (pos w)) (int_div (coef e.terms by.basic) (pos w)) by.basic by.terms e
