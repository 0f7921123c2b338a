-- What the columns of rows hold: the coefficients of the rows, by the rows' numbers, and each term once.
use Rattle.std.proofs.Common.{◌≡◌, ◌≢◌, ◌⊎◌, inl, inr, ℕ, zero, suc, ◌+◌, ◌-◌, ◌≤◌, ◌<◌, ◌==◌, List, [], ◌∷◌, length, map, filter, ℤ, pos, true, false, cond, All, refl, ap, sym, ◌∙◌, subst, arith}
use Rattle.std.proofs.lemmas.Int.{ints}
use Rattle.std.proofs.Math.ListN.{length-append}
use Rattle.std.proofs.lemmas.Bool.Decides.{nat_tests}
use Rattle.std.proofs.lemmas.List.Elements.{All-nil, All-cons, All-head, All-tail, All-append, All-weaker}
use Rattle.std.proofs.lemmas.List.Sums.{sum_by-cons}
use Rattle.opt_sums.specs.Sums.{at}
use Rattle.opt_sums.specs.Entries.{coef, IsRising, HasNoZero}
use Rattle.opt_sums.proofs.SumLemmas.{total_to, total_to-add, total_to-same, total_to-one, total_to-constant}
use Rattle.opt_sums.proofs.EntryLemmas.{same_or_other, one_same, one_other, coef-append}
use Rattle.opt_sums.proofs.RisingLemmas.{IsRising-head, IsRising-tail, IsRising-nil, IsRising-cons}
use Rattle.opt_system.specs.declared.rows.Row.{Row}
use Rattle.opt_system.specs.Rows.{IsEven, column_from, column_of, terms_at}
use Rattle.opt_system.specs.Systems.{System, IsLimited, IsSmallBy, IsSmallColumnTerm, row_at, term_count}

-- ---- the terms of a row that name a quantity
terms_at-same : (i : ℕ) (e : ℕ × ℤ) (es : List (ℕ × ℤ)) (j : ℕ) → e.0 ≡ j → terms_at i (e ∷ es) j ≡ (i, e.1) ∷ terms_at i es j
terms_at-same i e es j h =
    let yes : (e.0 == j) ≡ true = grind (arith, nat_tests) in
    ap (λ b. map (λ (d : ℕ × ℤ). (i, d.1)) (cond b (e ∷ filter (λ (d : ℕ × ℤ). d.0 == j) es) (filter (λ (d : ℕ × ℤ). d.0 == j) es))) yes

terms_at-other : (i : ℕ) (e : ℕ × ℤ) (es : List (ℕ × ℤ)) (j : ℕ) → e.0 ≢ j → terms_at i (e ∷ es) j ≡ terms_at i es j
terms_at-other i e es j h =
    let no : (e.0 == j) ≡ false = grind (arith, nat_tests) in
    ap (λ b. map (λ (d : ℕ × ℤ). (i, d.1)) (cond b (e ∷ filter (λ (d : ℕ × ℤ). d.0 == j) es) (filter (λ (d : ℕ × ℤ). d.0 == j) es))) no

coef-terms_at : (i : ℕ) (es : List (ℕ × ℤ)) (j : ℕ) → coef (terms_at i es j) i ≡ coef es j
coef-terms_at i [] j = refl
coef-terms_at i (e ∷ es) j =
    elim (same_or_other e.0 j) [
      | inl h ↦
          let p : e.0 ≡ j = h in
          omega (arith, ints, ap (λ ds. coef ds i) (terms_at-same i e es j p), one_same i i e.1 refl, one_same e.0 j e.1 p, coef-terms_at i es j)
      | inr h ↦
          let p : e.0 ≢ j = h in
          omega (arith, ints, ap (λ ds. coef ds i) (terms_at-other i e es j p), one_other e.0 j e.1 p, coef-terms_at i es j)
    ]

coef-terms_at_other : (i : ℕ) (es : List (ℕ × ℤ)) (j k : ℕ) → i ≢ k → coef (terms_at i es j) k ≡ pos 0
coef-terms_at_other i [] j k apart = refl
coef-terms_at_other i (e ∷ es) j k apart =
    elim (same_or_other e.0 j) [
      | inl h ↦
          let p : e.0 ≡ j = h in
          omega (arith, ints, ap (λ ds. coef ds k) (terms_at-same i e es j p), one_other i k e.1 apart, coef-terms_at_other i es j k apart)
      | inr h ↦
          let p : e.0 ≢ j = h in
          omega (arith, ints, ap (λ ds. coef ds k) (terms_at-other i e es j p), coef-terms_at_other i es j k apart)
    ]

-- ---- the coefficients of a column
coef-column_from_before : (s : ℕ) (rows : List Row) (j k : ℕ) → k < s → coef (column_from s rows j) k ≡ pos 0
coef-column_from_before s [] j k h = refl
coef-column_from_before s (row ∷ rows) j k h =
    let apart : s ≢ k = omega arith in
    omega (arith, ints, coef-append (terms_at s row.terms j) (column_from (s + 1) rows j) k, coef-terms_at_other s row.terms j k apart, coef-column_from_before (s + 1) rows j k (omega arith))

coef-column_from : (s : ℕ) (rows : List Row) (j i : ℕ) → coef (column_from s rows j) (s + i) ≡ coef (row_at rows i).terms j
coef-column_from s [] j i = refl
coef-column_from s (row ∷ rows) j zero =
    let same : s + zero ≡ s = omega arith in
    rw same
    (omega (arith, ints, coef-append (terms_at s row.terms j) (column_from (s + 1) rows j) s, coef-terms_at s row.terms j, coef-column_from_before (s + 1) rows j s (omega arith)))
coef-column_from s (row ∷ rows) j (suc i) =
    let apart : s ≢ s + suc i = omega arith in
    let same : s + suc i ≡ s + 1 + i = omega arith in
    omega (arith, ints, coef-append (terms_at s row.terms j) (column_from (s + 1) rows j) (s + suc i), coef-terms_at_other s row.terms j (s + suc i) apart, ap (coef (column_from (s + 1) rows j)) same, coef-column_from (s + 1) rows j i)

-- a column has the coefficients that its quantity has in the rows
pub coef-column_of : (rows : List Row) (j i : ℕ) → coef (column_of rows j) i ≡ coef (row_at rows i).terms j
coef-column_of rows j i =
    let same : i ≡ 0 + i = omega arith in
    ap (coef (column_of rows j)) same ∙ coef-column_from 0 rows j i

-- ---- the entries of a column
All-terms_at : (P : ℕ → ℤ → Type 0) (Q : ℕ → Type 0) (i : ℕ) (es : List (ℕ × ℤ)) (j : ℕ) → Q i → All (λ e. P e.0 e.1) es → All (λ e. Q e.0 × P j e.1) (terms_at i es j)
All-terms_at P Q i [] j q h = All-nil (λ e. Q e.0 × P j e.1)
All-terms_at P Q i (e ∷ es) j q h =
    elim (same_or_other e.0 j) [
      | inl same ↦
          let p : e.0 ≡ j = same in
          rw (terms_at-same i e es j p)
          (All-cons (λ d. Q d.0 × P j d.1) (i, e.1) (terms_at i es j)
          (q, rw (sym p) (All-head (λ d. P d.0 d.1) e es h))
          (All-terms_at P Q i es j q (All-tail (λ d. P d.0 d.1) e es h)))
      | inr other ↦
          let p : e.0 ≢ j = other in
          rw (terms_at-other i e es j p) (All-terms_at P Q i es j q (All-tail (λ d. P d.0 d.1) e es h))
    ]

All-column_from : (P : ℕ → ℤ → Type 0) (n s : ℕ) (rows : List Row) (j : ℕ) → s + length rows ≤ n → All (λ row. All (λ e. P e.0 e.1) row.terms) rows → All (λ e. (e.0 < n) × P j e.1) (column_from s rows j)
All-column_from P n s [] j h all = All-nil (λ e. (e.0 < n) × P j e.1)
All-column_from P n s (row ∷ rows) j h all =
    All-append (λ e. (e.0 < n) × P j e.1) (terms_at s row.terms j) (column_from (s + 1) rows j)
    (All-terms_at P (λ i. i < n) s row.terms j (omega arith) (All-head (λ r. All (λ e. P e.0 e.1) r.terms) row rows all))
    (All-column_from P n (s + 1) rows j (omega arith) (All-tail (λ r. All (λ e. P e.0 e.1) r.terms) row rows all))

-- what holds of each term of the rows, by its quantity and coefficient, holds of the entries of a column, and these name rows
pub All-column_of : (P : ℕ → ℤ → Type 0) (rows : List Row) (j : ℕ) → All (λ row. All (λ e. P e.0 e.1) row.terms) rows → All (λ e. (e.0 < length rows) × P j e.1) (column_of rows j)
All-column_of P rows j all = All-column_from P (length rows) 0 rows j (omega arith) all

-- ---- a column rises and has no 0
terms_at-none : (i : ℕ) (es : List (ℕ × ℤ)) (j : ℕ) → All (λ e. j < e.0) es → terms_at i es j ≡ []
terms_at-none i [] j above = refl
terms_at-none i (e ∷ es) j above =
    let past : j < e.0 = All-head (λ d. j < d.0) e es above in
    terms_at-other i e es j (omega arith) ∙ terms_at-none i es j (All-tail (λ d. j < d.0) e es above)

-- a row whose terms rise has at most one that names the quantity
terms_at-one : (i : ℕ) (es : List (ℕ × ℤ)) (j : ℕ) → IsRising es → (terms_at i es j ≡ []) ⊎ ((a : ℤ) × (terms_at i es j ≡ (i, a) ∷ []))
terms_at-one i [] j rising = inl refl
terms_at-one i (e ∷ es) j rising =
    elim (same_or_other e.0 j) [
      | inl same ↦
          let p : e.0 ≡ j = same in
          let above : All (λ d. j < d.0) es = rw (sym p) (IsRising-head e es rising) in
          inr (e.1, terms_at-same i e es j p ∙ ap (λ ds. (i, e.1) ∷ ds) (terms_at-none i es j above))
      | inr other ↦
          let p : e.0 ≢ j = other in
          let P : List (ℕ × ℤ) → Type 0 = λ ts. (ts ≡ []) ⊎ ((a : ℤ) × (ts ≡ (i, a) ∷ [])) in
          subst P (sym (terms_at-other i e es j p)) (terms_at-one i es j (IsRising-tail e es rising))
    ]

column_from-above : (s : ℕ) (rows : List Row) (j : ℕ) → All (λ e. s ≤ e.0) (column_from s rows j)
column_from-above s [] j = All-nil (λ e. s ≤ e.0)
column_from-above s (row ∷ rows) j =
    All-append (λ e. s ≤ e.0) (terms_at s row.terms j) (column_from (s + 1) rows j)
    (All-weaker (λ e. (s ≤ e.0) × Unit {0}) (λ e. s ≤ e.0) (λ e h. h.0) (terms_at s row.terms j) (All-terms_at (λ _ _. Unit {0}) (λ i. s ≤ i) s row.terms j (omega arith) (λ _ _ _. tt)))
    (All-weaker (λ e. s + 1 ≤ e.0) (λ e. s ≤ e.0) (λ e h. omega arith) (column_from (s + 1) rows j) (column_from-above (s + 1) rows j))

IsRising-column_from : (s : ℕ) (rows : List Row) (j : ℕ) → All (λ row. IsRising row.terms) rows → IsRising (column_from s rows j)
IsRising-column_from s [] j rising = IsRising-nil
IsRising-column_from s (row ∷ rows) j rising =
    let rest : IsRising (column_from (s + 1) rows j) = IsRising-column_from (s + 1) rows j (All-tail (λ r. IsRising r.terms) row rows rising) in
    elim (terms_at-one s row.terms j (All-head (λ r. IsRising r.terms) row rows rising)) [
      | inl none ↦ rw none rest
      | inr one ↦
          rw one.1
          (IsRising-cons (s, one.0) (column_from (s + 1) rows j)
          (All-weaker (λ e. s + 1 ≤ e.0) (λ e. s < e.0) (λ e h. omega arith) (column_from (s + 1) rows j) (column_from-above (s + 1) rows j)) rest)
    ]

-- a column goes by rising row
pub IsRising-column_of : (rows : List Row) (j : ℕ) → All IsEven rows → IsRising (column_of rows j)
IsRising-column_of rows j even =
    IsRising-column_from 0 rows j (All-weaker IsEven (λ row. IsRising row.terms) (λ row e. e.rising) rows even)

-- and has no coefficient 0
pub HasNoZero-column_of : (rows : List Row) (j : ℕ) → All IsEven rows → HasNoZero (column_of rows j)
HasNoZero-column_of rows j even =
    All-weaker (λ e. (e.0 < length rows) × (e.1 ≢ pos 0)) (λ e. e.1 ≢ pos 0) (λ e h. h.1) (column_of rows j)
    (All-column_of (λ _ a. a ≢ pos 0) rows j (All-weaker IsEven (λ row. HasNoZero row.terms) (λ row e. e.no_zero) rows even))

-- the entries of a column name rows, and their coefficients are small for its quantity
pub column_small : (p : System) (j : ℕ) → IsLimited p → All (IsSmallColumnTerm p j) (column_of p.rows j)
column_small p j limited =
    All-column_of (λ k a. IsSmallBy a (at p.root.high k)) p.rows j (λ k d h l e g. (limited.small.terms k d h l e g).1)

-- ---- how many entries the columns have
total-terms_at : (n i : ℕ) (es : List (ℕ × ℤ)) → total_to n (λ j. length (terms_at i es j)) ≤ length es
total-terms_at n i [] = omega (arith, total_to-constant n 0)
total-terms_at n i (e ∷ es) =
    omega (
      arith,
      total_to-same n (λ j. length (terms_at i (e ∷ es) j)) (λ j. (length (terms_at i (e ∷ es) j) - length (terms_at i es j)) + length (terms_at i es j)) (λ j _. grows j),
      total_to-add n (λ j. length (terms_at i (e ∷ es) j) - length (terms_at i es j)) (λ j. length (terms_at i es j)),
      total_to-one n e.0 (λ j. length (terms_at i (e ∷ es) j) - length (terms_at i es j)) (omega (arith, ap length (terms_at-same i e es e.0 refl))) (λ j apart. none j apart),
      total-terms_at n i es,
    )
  where
    grows : (j : ℕ) → length (terms_at i (e ∷ es) j) ≡ (length (terms_at i (e ∷ es) j) - length (terms_at i es j)) + length (terms_at i es j)
    grows j =
        elim (same_or_other e.0 j) [
          | inl same ↦ let p : e.0 ≡ j = same in omega (arith, ap length (terms_at-same i e es j p))
          | inr other ↦ let p : e.0 ≢ j = other in omega (arith, ap length (terms_at-other i e es j p))
        ]

    none : (j : ℕ) → j ≢ e.0 → length (terms_at i (e ∷ es) j) - length (terms_at i es j) ≡ 0
    none j apart =
        let p : e.0 ≢ j = λ q. apart (sym q) in
        omega (arith, ap length (terms_at-other i e es j p))

total-column_from : (n s : ℕ) (rows : List Row) → total_to n (λ j. length (column_from s rows j)) ≤ term_count rows
total-column_from n s [] = omega (arith, total_to-constant n 0)
total-column_from n s (row ∷ rows) =
    omega (
      arith,
      total_to-same n (λ j. length (column_from s (row ∷ rows) j)) (λ j. length (terms_at s row.terms j) + length (column_from (s + 1) rows j)) (λ j _. length-append (terms_at s row.terms j) (column_from (s + 1) rows j)),
      total_to-add n (λ j. length (terms_at s row.terms j)) (λ j. length (column_from (s + 1) rows j)),
      total-terms_at n s row.terms,
      total-column_from n (s + 1) rows,
      sum_by-cons (λ (r : Row). length r.terms) row rows,
    )

-- the columns have together no more entries than the rows have terms
pub total-column_of : (n : ℕ) (rows : List Row) → total_to n (λ j. length (column_of rows j)) ≤ term_count rows
total-column_of n rows = total-column_from n 0 rows
