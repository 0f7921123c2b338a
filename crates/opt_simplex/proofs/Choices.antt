-- The values of basic variables, and what the choice of a leaving variable says of them.
use Rattle.std.proofs.Common.{◌≡◌, ◌⊎◌, inl, inr, ℕ, zero, suc, ◌+◌, ◌<◌, if◌then◌else◌, Bool, true, false, ◌&&◌, List, [], ◌∷◌, length, ℤ, pos, ◌+ℤ◌, ◌*ℤ◌, ◌≤ℤ◌, ◌<ℤ◌, Option, Some, None, nat_lt, refl, ap, sym, arith}
use Rattle.std.specs.Prelude.{int_lt, option_map, option_and_then}
use Rattle.std.proofs.lemmas.Int.{ints}
use Rattle.opt_sums.specs.Sums.{at}
use Rattle.opt_sums.specs.Entries.{weighted_sum}
use Rattle.opt_frac.specs.Divisors.{fits}
use Rattle.opt_frac.specs.Equations.{Equation}
use Rattle.opt_simplex.specs.Tableau.{equation_at}
use Rattle.opt_simplex.specs.Variables.{Variables, low_of, high_of}
use Rattle.opt_simplex.specs.Choice.{sum_from, values, Leaving, is_above, out_of_range, lesser, leaving_from}

none_some : (l : Leaving) → None ≡ Some l → ⊥
none_some l h = cc

some_none : (l : Leaving) → Some l ≡ None → ⊥
some_none l h = cc

-- ---- values
sum_from-is : (rest : ℕ → ℤ) (sum : ℤ) (es : List (ℕ × ℤ)) (z : ℤ) → sum_from rest sum es ≡ Some z → z ≡ sum +ℤ weighted_sum es rest
sum_from-is rest sum [] z h = let e : sum ≡ z = cc in omega (arith, ints)
sum_from-is rest sum (e ∷ es) z h =
    by_test (fits (e.1 *ℤ rest e.0) && fits (sum +ℤ (e.1 *ℤ rest e.0))) (λ k. sum_from-is rest (sum +ℤ (e.1 *ℤ rest e.0)) es z k) h
  where
    by_test : (t : Bool) → (sum_from rest (sum +ℤ (e.1 *ℤ rest e.0)) es ≡ Some z → z ≡ (sum +ℤ (e.1 *ℤ rest e.0)) +ℤ weighted_sum es rest)
        → (if t then sum_from rest (sum +ℤ (e.1 *ℤ rest e.0)) es else None) ≡ Some z → z ≡ sum +ℤ weighted_sum (e ∷ es) rest
    by_test true more k = omega (arith, ints, more k)
    by_test false more k = cc

-- the values are the sums of the terms
pub record AreValues (rest : ℕ → ℤ) (es : List Equation) (zs : List ℤ) : Type 0 where
  pub same_length : length zs ≡ length es
  pub each : (i : ℕ) → i < length es → at zs i ≡ weighted_sum (equation_at es i).terms rest

pub values-are : (rest : ℕ → ℤ) (es : List Equation) (zs : List ℤ) → values rest es ≡ Some zs → AreValues rest es zs
values-are rest [] zs h =
    let none : [] ≡ zs = cc in
    record { same_length = ap length (sym none); each = λ i below. absurd (omega arith) }
values-are rest (e ∷ es) zs h = by_first (λ more k. values-are rest es more k) (sum_from rest (pos 0) e.terms) refl (values rest es) refl h
  where
    cons_values : (z : ℤ) (more : List ℤ) → sum_from rest (pos 0) e.terms ≡ Some z → AreValues rest es more → AreValues rest (e ∷ es) (z ∷ more)
    cons_values z more first others =
        record {
          same_length = ap suc others.same_length;
          each = each_at;
        }
      where
        each_at : (i : ℕ) → i < length (e ∷ es) → at (z ∷ more) i ≡ weighted_sum (equation_at (e ∷ es) i).terms rest
        each_at zero below = omega (arith, ints, sum_from-is rest (pos 0) e.terms z first)
        each_at (suc i) below = others.each i (omega arith)

    by_first : ((more : List ℤ) → values rest es ≡ Some more → AreValues rest es more) → (a : Option ℤ) → sum_from rest (pos 0) e.terms ≡ a
        → (b : Option (List ℤ)) → values rest es ≡ b → option_and_then (λ value. option_map (λ more. value ∷ more) b) a ≡ Some zs
        → AreValues rest (e ∷ es) zs
    by_first are None p b q k = cc
    by_first are (Some z) p None q k = cc
    by_first are (Some z) p (Some more) q k =
        let same : z ∷ more ≡ zs = cc in
        rw (sym same) (cons_values z more p (are more q))

-- ---- the range of a value
-- the value over the lead is below the low, or above the high
abbrev pub IsOut : Variables → Equation → ℤ → Bool → Type 0
IsOut v e z true = z <ℤ (low_of v e.basic *ℤ e.lead)
IsOut v e z false = (h : ℤ) × (high_of v e.basic ≡ Some h) × ((h *ℤ e.lead) <ℤ z)

-- it is neither
pub record IsIn (v : Variables) (e : Equation) (z : ℤ) : Type 0 where
  pub above : (low_of v e.basic *ℤ e.lead) ≤ℤ z
  pub below : (h : ℤ) → high_of v e.basic ≡ Some h → z ≤ℤ (h *ℤ e.lead)

less_is : (a b : ℤ) → int_lt a b ≡ true → a <ℤ b
less_is a b h = grind (arith, ints)

not_less_is : (a b : ℤ) → int_lt a b ≡ false → b ≤ℤ a
not_less_is a b h = grind (arith, ints)

above_is : (v : Variables) (e : Equation) (z : ℤ) (high : Option ℤ) → high_of v e.basic ≡ high → is_above z e.lead high ≡ true → IsOut v e z false
above_is v e z None p h = cc
above_is v e z (Some top) p h = (top, p, less_is (top *ℤ e.lead) z h)

not_above_is : (z lead : ℤ) (high : Option ℤ) → is_above z lead high ≡ false → (h : ℤ) → high ≡ Some h → z ≤ℤ (h *ℤ lead)
not_above_is z lead None k h e = cc
not_above_is z lead (Some top) k h e = let same : top ≡ h = cc in rw (sym same) (not_less_is (top *ℤ lead) z k)

-- what the choice says of one equation
pub record IsOutAt (v : Variables) (position : ℕ) (e : Equation) (z : ℤ) (l : Leaving) : Type 0 where
  pub position_is : l.position ≡ position
  pub equation_is : l.equation ≡ e
  pub out : IsOut v e z l.below

out_of_range-is : (v : Variables) (position : ℕ) (e : Equation) (z : ℤ)
    → ((l : Leaving) → out_of_range v position e z ≡ Some l → IsOutAt v position e z l) × (out_of_range v position e z ≡ None → IsIn v e z)
out_of_range-is v position e z = by_low (int_lt z (low_of v e.basic *ℤ e.lead)) refl (is_above z e.lead (high_of v e.basic)) refl
  where
    whole : Bool → Bool → Option Leaving
    whole low high =
        if low then Some (record { position = position; equation = e; below = true }) else if high then Some
        (record { position = position; equation = e; below = false }) else None

    of_same : (l : Leaving) (b : Bool) → Some (record { position = position; equation = e; below = b }) ≡ Some l → IsOut v e z b
        → IsOutAt v position e z l
    of_same l b h out =
        let same : record { position = position; equation = e; below = b } ≡ l = cc in
        rw (sym same) (record { position_is = refl; equation_is = refl; out = out })

    by_low : (low : Bool) → int_lt z (low_of v e.basic *ℤ e.lead) ≡ low → (high : Bool) → is_above z e.lead (high_of v e.basic) ≡ high
        → ((l : Leaving) → out_of_range v position e z ≡ Some l → IsOutAt v position e z l) × (out_of_range v position e z ≡ None → IsIn v e z)
    by_low true p high q =
        (λ l h. of_same l true (rw p at h) (less_is z (low_of v e.basic *ℤ e.lead) p), λ h. absurd (some_none (record { position = position; equation = e; below = true }) (rw p at h)))
    by_low false p true q =
        (λ l h. of_same l false (rw (p, q) at h) (above_is v e z (high_of v e.basic) refl q), λ h. absurd (some_none (record { position = position; equation = e; below = false }) (rw (p, q) at h)))
    by_low false p false q =
        (λ l h. absurd (none_some l (rw (p, q) at h)), λ h. record { above = not_less_is z (low_of v e.basic *ℤ e.lead) p; below = not_above_is z e.lead (high_of v e.basic) q })

-- ---- the leaving variable
lesser-some : (a b : Option Leaving) (l : Leaving) → lesser a b ≡ Some l → (a ≡ Some l) ⊎ (b ≡ Some l)
lesser-some None b l h = inr h
lesser-some (Some a) None l h = inl h
lesser-some (Some a) (Some b) l h = by_test (nat_lt b.equation.basic a.equation.basic) h
  where
    by_test : (t : Bool) → (if t then Some b else Some a) ≡ Some l → (Some a ≡ Some l) ⊎ (Some b ≡ Some l)
    by_test true k = inr k
    by_test false k = inl k

lesser-none : (a b : Option Leaving) → lesser a b ≡ None → (a ≡ None) × (b ≡ None)
lesser-none None b h = (refl, h)
lesser-none (Some a) None h = cc
lesser-none (Some a) (Some b) h = absurd (by_test (nat_lt b.equation.basic a.equation.basic) h)
  where
    by_test : (t : Bool) → (if t then Some b else Some a) ≡ None → ⊥
    by_test true k = cc
    by_test false k = cc

-- the leaving variable is that of one of the equations, and out of its range
pub record IsLeaving (v : Variables) (position : ℕ) (es : List Equation) (zs : List ℤ) (l : Leaving) : Type 0 where
  pub index : ℕ
  pub inside : index < length es
  pub position_is : l.position ≡ position + index
  pub equation_is : l.equation ≡ equation_at es index
  pub out : IsOut v (equation_at es index) (at zs index) l.below

pub leaving-some : (v : Variables) (position : ℕ) (best : Option Leaving) (es : List Equation) (zs : List ℤ) (l : Leaving)
    → leaving_from v position best es zs ≡ Some l → (best ≡ Some l) ⊎ IsLeaving v position es zs l
leaving-some v position best [] zs l h = inl h
leaving-some v position best (e ∷ es) [] l h = inl h
leaving-some v position best (e ∷ es) (z ∷ zs) l h =
    elim (leaving-some v (position + 1) (lesser best (out_of_range v position e z)) es zs l h) [
      | inl now ↦
          elim (lesser-some best (out_of_range v position e z) l now) [
            | inl before ↦ inl before
            | inr here ↦
                let is : IsOutAt v position e z l = (out_of_range-is v position e z).0 l here in
                inr (record { index = 0; inside = omega arith; position_is = omega (arith, is.position_is); equation_is = is.equation_is; out = is.out })
          ]
      | inr later ↦
          let is : IsLeaving v (position + 1) es zs l = later in
          inr (record { index = suc is.index; inside = omega (arith, is.inside); position_is = omega (arith, is.position_is); equation_is = is.equation_is; out = is.out })
    ]

pub leaving-none : (v : Variables) (position : ℕ) (best : Option Leaving) (es : List Equation) (zs : List ℤ) → length zs ≡ length es
    → leaving_from v position best es zs ≡ None
    → (best ≡ None) × ((i : ℕ) → i < length es → IsIn v (equation_at es i) (at zs i))
leaving-none v position best [] zs e h = (h, λ i below. absurd (omega arith))
leaving-none v position best (e ∷ es) [] same h = absurd (omega arith)
leaving-none v position best (e ∷ es) (z ∷ zs) same h =
    let more : (lesser best (out_of_range v position e z) ≡ None) × ((i : ℕ) → i < length es → IsIn v (equation_at es i) (at zs i)) =
    leaving-none v (position + 1) (lesser best (out_of_range v position e z)) es zs (omega arith) h in
    let both : (best ≡ None) × (out_of_range v position e z ≡ None) = lesser-none best (out_of_range v position e z) more.0 in
    (both.0, each_in ((out_of_range-is v position e z).1 both.1) more.1)
  where
    each_in : IsIn v e z → ((i : ℕ) → i < length es → IsIn v (equation_at es i) (at zs i)) → (i : ℕ) → i < length (e ∷ es)
        → IsIn v (equation_at (e ∷ es) i) (at (z ∷ zs) i)
    each_in here more zero below = here
    each_in here more (suc i) below = more i (omega arith)
