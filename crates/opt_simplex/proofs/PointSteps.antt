-- The values of the quantities, from the last equation to the first.
use Rattle.std.proofs.Common.{◌≡◌, inl, inr, ℕ, zero, suc, ◌+◌, ◌-◌, ◌<◌, ◌≤◌, List, [], ◌∷◌, length, get_or, set, drop, ℤ, pos, ap, sym, ◌∙◌, arith}
use Rattle.std.specs.Int.{IsGcd}
use Rattle.std.proofs.lemmas.Nat.Gcd.{le_of_dvd}
use Rattle.std.proofs.lemmas.Bool.{cases_eq, eq-eqb, ne_eqb}
use Rattle.std.proofs.lemmas.List.{drop_more, get_or_default, length-set, get_or-set_same, get_or-set_other}
use Rattle.std.proofs.lemmas.List.FromFn.{get_or-map-range_with_len, length-map-range_with_len, fill_by_all}
use Rattle.opt_sums.specs.Sums.{at}
use Rattle.opt_frac.specs.Divisors.{gcd}
use Rattle.opt_frac.specs.Equations.{Equation}
use Rattle.opt_frac.proofs.Divisions.{divisor_positive, gcd-is}
use Rattle.opt_simplex.specs.Tableau.{equation_at}
use Rattle.opt_simplex.specs.Choice.{fraction, fraction_of, point_of}

-- one equation more in front
point_of-cons : (n : ℕ) (rest : ℕ → ℤ) (e : Equation) (es : List Equation) (z : ℤ) (zs : List ℤ)
    → set (point_of n rest es zs) e.basic (fraction z e.lead) ≡ point_of n rest (e ∷ es) (z ∷ zs)
point_of-cons n rest e es z zs =
    fill_by_all (λ j. fraction_of rest j (e ∷ es) (z ∷ zs)) (set (point_of n rest es zs) e.basic (fraction z e.lead)) n (pos 0, pos 1)
    (length-set (point_of n rest es zs) e.basic (fraction z e.lead) ∙ length-map-range_with_len (λ j. fraction_of rest j es zs) 0 n)
    (λ k h. elim (cases_eq e.basic k) [
      | inl same ↦
          let here : e.basic < length (point_of n rest es zs) = omega (arith, same, length-map-range_with_len (λ j. fraction_of rest j es zs) 0 n) in
          rw (eq-eqb e.basic k same)
          (ap (λ i. get_or (set (point_of n rest es zs) e.basic (fraction z e.lead)) i (pos 0, pos 1)) (sym same)
          ∙ get_or-set_same (point_of n rest es zs) e.basic (fraction z e.lead) (pos 0, pos 1) here)
      | inr apart ↦
          rw (ne_eqb e.basic k apart)
          (get_or-set_other (point_of n rest es zs) e.basic k (fraction z e.lead) (pos 0, pos 1) (λ s. apart (sym s))
          ∙ get_or-map-range_with_len (λ j. fraction_of rest j es zs) 0 n k k (pos 0, pos 1) h (omega arith))
    ])

pub point_of-more : (n : ℕ) (rest : ℕ → ℤ) (es : List Equation) (zs : List ℤ) (i : ℕ) → i < length es → i < length zs
    → set (point_of n rest (drop (i + 1) es) (drop (i + 1) zs)) (equation_at es i).basic (fraction (at zs i) (equation_at es i).lead)
    ≡ point_of n rest (drop i es) (drop i zs)
point_of-more n rest es zs i h k =
    point_of-cons n rest (equation_at es i) (drop (i + 1) es) (at zs i) (drop (i + 1) zs)
    ∙ ap (λ ds. point_of n rest ds (at zs i ∷ drop (i + 1) zs)) (sym (drop_more es i (record { basic = 0; lead = pos 1; terms = [] }) h))
    ∙ ap (λ ys. point_of n rest (drop i es) ys) (sym (drop_more zs i (pos 0) k))

-- a divisor of a number above 0 is from 1 to that number
pub gcd-later : (a b : ℕ) → 0 < b → (1 ≤ gcd a b) × (gcd a b ≤ b)
gcd-later a b h =
    let divides : IsGcd a b (gcd a b) = gcd-is a b in
    (divisor_positive (gcd a b) b divides.1 h, le_of_dvd h divides.1)

-- one equation more in front, at the position before
pub point_of-back : (n : ℕ) (rest : ℕ → ℤ) (es : List Equation) (zs : List ℤ) (i : ℕ) (made : List (ℤ × ℤ)) (e : Equation) → 0 < i
    → i ≤ length es → length zs ≡ length es → e ≡ get_or es (i - 1) e → made ≡ point_of n rest (drop i es) (drop i zs)
    → set made e.basic (fraction (at zs (i - 1)) e.lead) ≡ point_of n rest (drop (i - 1) es) (drop (i - 1) zs)
point_of-back n rest es zs i made e positive within each is now =
    let before : i - 1 < length es = omega arith in
    let number : i ≡ (i - 1) + 1 = omega arith in
    let e_is : e ≡ equation_at es (i - 1) = is ∙ get_or_default es (i - 1) e (record { basic = 0; lead = pos 1; terms = [] }) before in
    ap (λ m. set m e.basic (fraction (at zs (i - 1)) e.lead)) (now ∙ ap (λ k. point_of n rest (drop k es) (drop k zs)) number)
    ∙ ap (λ (d : Equation). set (point_of n rest (drop ((i - 1) + 1) es) (drop ((i - 1) + 1) zs)) d.basic (fraction (at zs (i - 1)) d.lead)) e_is
    ∙ point_of-more n rest es zs (i - 1) before (omega arith)

-- all equations
pub point_of-whole : (n : ℕ) (rest : ℕ → ℤ) (es : List Equation) (zs : List ℤ) (i : ℕ) (made : List (ℤ × ℤ)) → i ≤ 0
    → made ≡ point_of n rest (drop i es) (drop i zs) → made ≡ point_of n rest es zs
point_of-whole n rest es zs zero made h now = now
point_of-whole n rest es zs (suc i) made h now = absurd (omega arith)
