-- The values of basic variables, and which variables leave and enter the basis.
use Rattle.std.specs.Prelude.{ℕ, ◌+◌, ◌*◌, ◌==◌, List, [], ◌∷◌, Bool, true, false, ◌&&◌, map, ℤ, pos, ◌+ℤ◌, ◌*ℤ◌, unsigned_abs, int_lt, int_div, nat_lt, if◌then◌else◌, Option, Some, None, option_map, option_and_then}
use Rattle.std.specs.List.{range_with_len}
use Rattle.std.specs.Int.{is_positive, is_negative}
use Rattle.opt_sums.specs.Entries.{coef}
use Rattle.opt_frac.specs.Divisors.{gcd, fits}
use Rattle.opt_frac.specs.Equations.{Equation}
use Rattle.opt_simplex.specs.Variables.{Variables, low_of, high_of, rests_high, is_free}

-- the sum so far with the products of coefficients and resting values added one by one; None where a product or a sum
-- does not fit
abbrev pub sum_from : (ℕ → ℤ) → ℤ → List (ℕ × ℤ) → Option ℤ
sum_from rest sum [] = Some sum
sum_from rest sum (e ∷ es) =
    if fits (e.1 *ℤ rest e.0) && fits (sum +ℤ (e.1 *ℤ rest e.0))
    then sum_from rest (sum +ℤ (e.1 *ℤ rest e.0)) es
    else None

-- lead times the value of each equation's variable, by position
abbrev pub values : (ℕ → ℤ) → List Equation → Option (List ℤ)
values rest [] = Some []
values rest (e ∷ es) = option_and_then (λ value. option_map (λ more. value ∷ more) (values rest es)) (sum_from rest (pos 0) e.terms)

-- the equation of the variable that leaves the basis, its position, and whether the value is below its low
pub record Leaving : Type 0 where
  pub position : ℕ
  pub equation : Equation
  pub below : Bool

-- value over lead is above the high
abbrev pub is_above : ℤ → ℤ → Option ℤ → Bool
is_above value lead None = false
is_above value lead (Some high) = int_lt (high *ℤ lead) value

-- the variable as one that may leave, where its value is out of its range
abbrev pub out_of_range : Variables → ℕ → Equation → ℤ → Option Leaving
out_of_range v position e value =
    if int_lt value (low_of v e.basic *ℤ e.lead)
    then Some (record { position = position; equation = e; below = true })
    else if is_above value e.lead (high_of v e.basic)
    then Some (record { position = position; equation = e; below = false })
    else None

-- the one of the lesser variable
abbrev pub lesser : Option Leaving → Option Leaving → Option Leaving
lesser None b = b
lesser (Some a) None = Some a
lesser (Some a) (Some b) = if nat_lt b.equation.basic a.equation.basic then Some b else Some a

-- the best so far, or the least variable of these equations, from this position on, whose value is out of its range
abbrev pub leaving_from : Variables → ℕ → Option Leaving → List Equation → List ℤ → Option Leaving
leaving_from v position best [] zs = best
leaving_from v position best (e ∷ es) [] = best
leaving_from v position best (e ∷ es) (z ∷ zs) = leaving_from v (position + 1) (lesser best (out_of_range v position e z)) es zs

-- a variable with this coefficient, which rests at its high or low, can move the leaving one toward its range
abbrev pub can_help : Bool → Bool → ℤ → Bool
can_help true false coefficient = is_positive coefficient
can_help true true coefficient = is_negative coefficient
can_help false false coefficient = is_negative coefficient
can_help false true coefficient = is_positive coefficient

-- the variable of the leaving equation's term may enter the basis
abbrev pub may_enter : Variables → List Bool → Bool → ℕ × ℤ → Bool
may_enter v at_high below e = is_free (low_of v e.0) (high_of v e.0) && can_help below (rests_high at_high e.0) e.1

-- the ratio of the size of the first one's cost to that of its coefficient is less than the second one's
abbrev pub has_less_ratio : Equation → ℕ × ℤ → ℕ × ℤ → Bool
has_less_ratio cost d e = nat_lt (unsigned_abs (coef cost.terms d.0) * unsigned_abs e.1) (unsigned_abs (coef cost.terms e.0) * unsigned_abs d.1)

-- the one of the lesser ratio, and the earlier one of equal ratios
abbrev pub better : Equation → Option (ℕ × ℤ) → ℕ × ℤ → Option (ℕ × ℤ)
better cost None d = Some d
better cost (Some e) d = if has_less_ratio cost d e then Some d else Some e

-- the best so far, or the term of least ratio among those whose variable may enter
abbrev pub entering_from : Variables → List Bool → Bool → Equation → Option (ℕ × ℤ) → List (ℕ × ℤ) → Option (ℕ × ℤ)
entering_from v at_high below cost best [] = best
entering_from v at_high below cost best (d ∷ ds) =
    entering_from v at_high below cost (if may_enter v at_high below d then better cost best d else best) ds

-- numerator over denominator, in lowest terms
abbrev pub fraction : ℤ → ℤ → ℤ × ℤ
fraction a b = (int_div a (pos (gcd (unsigned_abs a) (unsigned_abs b))), int_div b (pos (gcd (unsigned_abs a) (unsigned_abs b))))

-- the value of variable j, which is value over lead where it is basic, and else the one at which it rests
abbrev pub fraction_of : (ℕ → ℤ) → ℕ → List Equation → List ℤ → ℤ × ℤ
fraction_of rest j [] zs = (rest j, pos 1)
fraction_of rest j (e ∷ es) [] = (rest j, pos 1)
fraction_of rest j (e ∷ es) (z ∷ zs) = if e.basic == j then fraction z e.lead else fraction_of rest j es zs

-- the values of the quantities
abbrev pub point_of : ℕ → (ℕ → ℤ) → List Equation → List ℤ → List (ℤ × ℤ)
point_of n rest es zs = map (λ j. fraction_of rest j es zs) (range_with_len 0 n)
