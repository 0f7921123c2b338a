-- Values computed term by term, and equation by equation.
use Rattle.std.proofs.Common.{◌≡◌, ℕ, zero, suc, ◌+◌, ◌<◌, ◌≤◌, if◌then◌else◌, Bool, true, false, ◌&&◌, List, [], ◌∷◌, ◌++◌, length, get_or, drop, ℤ, pos, ◌+ℤ◌, ◌*ℤ◌, Option, Some, None, option_map, All, refl, ap, sym, subst, ◌∙◌, arith}
use Rattle.std.specs.Prelude.{option_and_then}
use Rattle.std.proofs.lemmas.List.{drop_more, length-drop}
use Rattle.std.proofs.lemmas.List.Elements.{All-nil, All-cons}
use Rattle.opt_frac.specs.Divisors.{fits, Fits}
use Rattle.opt_frac.specs.Equations.{Equation}
use Rattle.opt_sums.specs.Sums.{at}
use Rattle.opt_simplex.specs.Tableau.{equation_at}
use Rattle.opt_simplex.specs.Choice.{sum_from, values}
use Rattle.opt_frac.proofs.FitLemmas.{Fits-test, and_right}
use Rattle.opt_simplex.specs.Outcomes.{with_product}

-- one term more
pub sum_from-step : (rest : ℕ → ℤ) (total : ℤ) (es : List (ℕ × ℤ)) (i : ℕ) (d : ℕ × ℤ) → i < length es
    → sum_from rest total (drop i es)
    ≡ option_and_then (λ z. sum_from rest z (drop (i + 1) es)) (with_product total (get_or es i d).1 (rest (get_or es i d).0))
sum_from-step rest total es i d h =
    ap (sum_from rest total) (drop_more es i d h)
    ∙ by_test (fits ((get_or es i d).1 *ℤ rest (get_or es i d).0) && fits (total +ℤ ((get_or es i d).1 *ℤ rest (get_or es i d).0)))
    (total +ℤ ((get_or es i d).1 *ℤ rest (get_or es i d).0))
  where
    by_test : (b : Bool) (z : ℤ)
        → (if b then sum_from rest z (drop (i + 1) es) else None)
        ≡ option_and_then (λ z. sum_from rest z (drop (i + 1) es)) (if b then Some z else None)
    by_test true z = refl
    by_test false z = refl

-- a term more of a total, where there is one
pub sum_from-next : (rest : ℕ → ℤ) (es : List (ℕ × ℤ)) (i : ℕ) (d : ℕ × ℤ) (total next start : Option ℤ) → i < length es
    → next ≡ option_and_then (λ z. with_product z (get_or es i d).1 (rest (get_or es i d).0)) total
    → option_and_then (λ z. sum_from rest z (drop i es)) total ≡ start → option_and_then (λ z. sum_from rest z (drop (i + 1) es)) next ≡ start
sum_from-next rest es i d None next start h is now = ap (option_and_then (λ z. sum_from rest z (drop (i + 1) es))) is ∙ now
sum_from-next rest es i d (Some z) next start h is now =
    ap (option_and_then (λ z. sum_from rest z (drop (i + 1) es))) is ∙ sym (sum_from-step rest z es i d h) ∙ now

-- all terms
pub sum_from-end : (rest : ℕ → ℤ) (es : List (ℕ × ℤ)) (i : ℕ) (total start : Option ℤ) → length es ≤ i
    → option_and_then (λ z. sum_from rest z (drop i es)) total ≡ start → total ≡ start
sum_from-end rest es i total start past now =
    by_total total (drop i es) (omega (arith, length-drop i es, past)) now
  where
    by_total : (t : Option ℤ) (ds : List (ℕ × ℤ)) → length ds ≡ 0 → option_and_then (λ z. sum_from rest z ds) t ≡ start → t ≡ start
    by_total None ds z k = k
    by_total (Some a) [] z k = k
    by_total (Some a) (d ∷ ds) z k = absurd (omega arith)

sum_from-fits : (rest : ℕ → ℤ) (sum : ℤ) (es : List (ℕ × ℤ)) (z : ℤ) → Fits sum → sum_from rest sum es ≡ Some z → Fits z
sum_from-fits rest sum [] z fit h = let same : sum ≡ z = cc in rw same at fit
sum_from-fits rest sum (e ∷ es) z fit h =
    by_test (fits (e.1 *ℤ rest e.0) && fits (sum +ℤ (e.1 *ℤ rest e.0))) refl
    (λ fitting k. sum_from-fits rest (sum +ℤ (e.1 *ℤ rest e.0)) es z fitting k) h
  where
    by_test : (t : Bool) → (fits (e.1 *ℤ rest e.0) && fits (sum +ℤ (e.1 *ℤ rest e.0))) ≡ t
        → (Fits (sum +ℤ (e.1 *ℤ rest e.0)) → sum_from rest (sum +ℤ (e.1 *ℤ rest e.0)) es ≡ Some z → Fits z)
        → (if t then sum_from rest (sum +ℤ (e.1 *ℤ rest e.0)) es else None) ≡ Some z → Fits z
    by_test true p more k =
        more (Fits-test (sum +ℤ (e.1 *ℤ rest e.0)) (and_right (fits (e.1 *ℤ rest e.0)) (fits (sum +ℤ (e.1 *ℤ rest e.0))) p)) k
    by_test false p more k = cc

zero_fits : Fits (pos 0)
zero_fits = omega arith

-- a value that is found fits
pub value-fits : (rest : ℕ → ℤ) (es : List (ℕ × ℤ)) (z : ℤ) → sum_from rest (pos 0) es ≡ Some z → Fits z
value-fits rest es z h = sum_from-fits rest (pos 0) es z zero_fits h

-- values that are found fit
pub values-fit : (rest : ℕ → ℤ) (es : List Equation) (zs : List ℤ) → values rest es ≡ Some zs → All Fits zs
values-fit rest [] zs h = let none : [] ≡ zs = cc in subst (All Fits) none (All-nil Fits)
values-fit rest (e ∷ es) zs h =
    by_first (sum_from rest (pos 0) e.terms) refl (values rest es) (λ more k. values-fit rest es more k) h
  where
    by_first : (a : Option ℤ) → sum_from rest (pos 0) e.terms ≡ a → (b : Option (List ℤ)) → ((more : List ℤ) → b ≡ Some more → All Fits more)
        → option_and_then (λ value. option_map (λ more. value ∷ more) b) a ≡ Some zs → All Fits zs
    by_first None p b go k = cc
    by_first (Some z) p None go k = cc
    by_first (Some z) p (Some more) go k =
        let same : z ∷ more ≡ zs = cc in
        subst (All Fits) same (All-cons Fits z more (sum_from-fits rest (pos 0) e.terms z zero_fits p) (go more refl))

-- ---- values
-- all values fit
pub values-all : (rest : ℕ → ℤ) (es : List Equation) (zs : List ℤ) → length zs ≡ length es
    → ((i : ℕ) → i < length es → sum_from rest (pos 0) (equation_at es i).terms ≡ Some (at zs i)) → values rest es ≡ Some zs
values-all rest [] [] same each = refl
values-all rest [] (z ∷ zs) same each = absurd (omega (arith, same))
values-all rest (e ∷ es) [] same each = absurd (omega (arith, same))
values-all rest (e ∷ es) (z ∷ zs) same each =
    rw (each zero (omega arith), values-all rest es zs (omega (arith, same)) (λ i h. each (suc i) (omega (arith, h)))) refl

-- one value does not fit
pub values-wide : (rest : ℕ → ℤ) (es : List Equation) (i : ℕ) → i < length es → sum_from rest (pos 0) (equation_at es i).terms ≡ None
    → values rest es ≡ None
values-wide rest [] i inside wide = absurd (omega (arith, inside))
values-wide rest (e ∷ es) zero inside wide = rw wide refl
values-wide rest (e ∷ es) (suc i) inside wide = rw (values-wide rest es i (omega (arith, inside)) wide) (by_first (sum_from rest (pos 0) e.terms))
  where
    by_first : (a : Option ℤ) → option_and_then (λ value. option_map (λ more. value ∷ more) None) a ≡ None
    by_first None = refl
    by_first (Some z) = refl
