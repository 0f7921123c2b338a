-- The positions of the equations with a term at a variable.
use Rattle.std.proofs.Common.{◌≡◌, ◌≢◌, ◌⊎◌, inl, inr, ℕ, zero, suc, ◌+◌, ◌<◌, ◌≤◌, ◌++◌, ◌==◌, ◌∙◌, pos, if◌then◌else◌, Bool, true, false, not, List, [], ◌∷◌, length, unsigned_abs, All, Contains, refl, ap, sym, subst, arith}
use Rattle.std.proofs.lemmas.Bool.{ne_eqb, cases_eq, cases_lt}
use Rattle.std.proofs.lemmas.List.Elements.{All-nil, All-cons, Contains-push, Contains-append_left}
use Rattle.opt_sums.specs.Entries.{coef}
use Rattle.opt_frac.specs.Equations.{Equation}
use Rattle.opt_simplex.specs.Tableau.{equation_at}
use Rattle.opt_simplex.specs.Columns.{has_term, positions_from}

-- an equation with a term
pub has-some : (k : ℕ) (e : Equation) → has_term k e ≡ true → coef e.terms k ≢ pos 0
has-some k e has none = apart (sym has ∙ ap (λ z. not (unsigned_abs z == 0)) none)
  where
    apart : true ≡ false → ⊥
    apart e = cc

-- the place of an item behind another one
contains_behind : (y x : ℕ) (xs : List ℕ) → Contains xs x → Contains (y ∷ xs) x
contains_behind y x xs h = (suc h.0, omega (arith, h.1), h.2)

-- the position of each equation with a term is listed
pub positions-contain : (k j : ℕ) (es : List Equation) (i : ℕ) → i < length es → has_term k (equation_at es i) ≡ true
    → Contains (positions_from k j es) (j + i)
positions-contain k j [] i inside has = absurd (omega (arith, inside))
positions-contain k j (e ∷ es) zero inside has = rw has (0, omega arith, omega arith)
positions-contain k j (e ∷ es) (suc i) inside has =
    let number : j + 1 + i ≡ j + suc i = omega arith in
    by_test (has_term k e) (subst (Contains (positions_from k (j + 1) es)) number (positions-contain k (j + 1) es i (omega (arith, inside)) has))
  where
    by_test : (b : Bool) → Contains (positions_from k (j + 1) es) (j + suc i)
        → Contains (if b then j ∷ positions_from k (j + 1) es else positions_from k (j + 1) es) (j + suc i)
    by_test true h = contains_behind j (j + suc i) (positions_from k (j + 1) es) h
    by_test false h = h

-- an equation whose position is not listed has no term
pub positions-without : (k : ℕ) (es : List Equation) (i : ℕ) → i < length es → (Contains (positions_from k 0 es) i → ⊥)
    → unsigned_abs (coef (equation_at es i).terms k) ≡ 0
positions-without k es i inside apart = by_test (cases_eq (unsigned_abs (coef (equation_at es i).terms k)) 0)
  where
    by_test : (unsigned_abs (coef (equation_at es i).terms k) ≡ 0) ⊎ (unsigned_abs (coef (equation_at es i).terms k) ≡ 0 → ⊥)
        → unsigned_abs (coef (equation_at es i).terms k) ≡ 0
    by_test (inl z) = z
    by_test (inr z) =
        let has : has_term k (equation_at es i) ≡ true = rw (ne_eqb (unsigned_abs (coef (equation_at es i).terms k)) 0 z) refl in
        let number : 0 + i ≡ i = omega arith in
        absurd (apart (subst (Contains (positions_from k 0 es)) number (positions-contain k 0 es i inside has)))

-- each listed position is one of an equation
pub positions-inside : (k j : ℕ) (es : List Equation) → All (λ i. i < j + length es) (positions_from k j es)
positions-inside k j [] = All-nil (λ i. i < j + 0)
positions-inside k j (e ∷ es) =
    let number : j + 1 + length es ≡ j + suc (length es) = omega arith in
    by_test (has_term k e) (subst (λ n. All (λ i. i < n) (positions_from k (j + 1) es)) number (positions-inside k (j + 1) es))
  where
    by_test : (b : Bool) → All (λ i. i < j + suc (length es)) (positions_from k (j + 1) es)
        → All (λ i. i < j + suc (length es)) (if b then j ∷ positions_from k (j + 1) es else positions_from k (j + 1) es)
    by_test true h = All-cons (λ i. i < j + suc (length es)) j (positions_from k (j + 1) es) (omega arith) h
    by_test false h = h

pub listed-inside : (k n : ℕ) (es : List Equation) (listed : List ℕ) → listed ≡ positions_from k 0 es → n ≡ length es → All (λ i. i < n) listed
listed-inside k n es listed is same =
    let number : 0 + length es ≡ n = omega (arith, same) in
    subst (λ m. All (λ i. i < m) listed) number (subst (All (λ i. i < 0 + length es)) (sym is) (positions-inside k 0 es))

-- ---- all positions below a count
pub contains-more : (xs : List ℕ) (n : ℕ) → ((i : ℕ) → i < n → Contains xs i) → (i : ℕ) → i < n + 1 → Contains (xs ++ n ∷ []) i
contains-more xs n h i below = by_test (cases_eq n i)
  where
    by_test : (n ≡ i) ⊎ (n ≡ i → ⊥) → Contains (xs ++ n ∷ []) i
    by_test (inl same) = subst (Contains (xs ++ n ∷ [])) same (Contains-push xs n)
    by_test (inr apart) = Contains-append_left xs (n ∷ []) i (h i (lesser (cases_lt i n)))
      where
        lesser : (i < n) ⊎ (n ≤ i) → i < n
        lesser (inl less) = less
        lesser (inr more) = absurd (apart (omega arith))
