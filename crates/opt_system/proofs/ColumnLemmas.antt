-- How the columns of rows grow, term by term and row by row.
use Rattle.std.proofs.Common.{◌≡◌, ◌≢◌, inl, inr, ℕ, zero, suc, ◌+◌, ◌<◌, ◌==◌, List, [], ◌∷◌, ◌++◌, length, take, map, filter, get_or, set, ℤ, Bool, true, false, cond, refl, ap, sym, ◌∙◌, append_assoc, arith, get_or-set_other, get_or-set_same}
use Rattle.std.proofs.Math.ListN.{length-set}
use Rattle.std.proofs.lemmas.Bool.Decides.{nat_tests}
use Rattle.std.proofs.lemmas.List.{append-nil, map-append}
use Rattle.std.proofs.lemmas.List.Elements.{filter_more}
use Rattle.opt_sums.proofs.EntryLemmas.{same_or_other}
use Rattle.opt_system.specs.declared.rows.Row.{Row}
use Rattle.opt_system.specs.Rows.{column_from, column_of, terms_at}
use Rattle.opt_system.specs.Columns.{AddsRow, AreColumns, column_at}

-- the terms of a quantity among one term more, by the test whether that term names it
terms_at-take : (i : ℕ) (terms : List (ℕ × ℤ)) (k : ℕ) (d : ℕ × ℤ) (j : ℕ) (b : Bool) → k < length terms → ((get_or terms k d).0 == j) ≡ b → terms_at i (take (k + 1) terms) j ≡ terms_at i (take k terms) j ++ map (λ (e : ℕ × ℤ). (i, e.1)) (cond b (get_or terms k d ∷ []) [])
terms_at-take i terms k d j b h e =
    ap (map (λ (e : ℕ × ℤ). (i, e.1))) (filter_more (λ (e : ℕ × ℤ). e.0 == j) terms k d h ∙ ap (λ t. filter (λ (e : ℕ × ℤ). e.0 == j) (take k terms) ++ cond t (get_or terms k d ∷ []) []) e)
    ∙ map-append (λ (e : ℕ × ℤ). (i, e.1)) (filter (λ (e : ℕ × ℤ). e.0 == j) (take k terms)) (cond b (get_or terms k d ∷ []) [])

-- a term that names the quantity is one more of its terms
terms_at-take_same : (i : ℕ) (terms : List (ℕ × ℤ)) (k : ℕ) (d : ℕ × ℤ) (j : ℕ) → k < length terms → (get_or terms k d).0 ≡ j → terms_at i (take (k + 1) terms) j ≡ terms_at i (take k terms) j ++ (i, (get_or terms k d).1) ∷ []
terms_at-take_same i terms k d j h e = terms_at-take i terms k d j true h (grind (arith, nat_tests))

-- a term that names another quantity is none
terms_at-take_other : (i : ℕ) (terms : List (ℕ × ℤ)) (k : ℕ) (d : ℕ × ℤ) (j : ℕ) → k < length terms → (get_or terms k d).0 ≢ j → terms_at i (take (k + 1) terms) j ≡ terms_at i (take k terms) j
terms_at-take_other i terms k d j h e = terms_at-take i terms k d j false h (grind (arith, nat_tests)) ∙ append-nil (terms_at i (take k terms) j)

-- a row more adds its terms
pub column_from-take : (s : ℕ) (rows : List Row) (k : ℕ) (d : Row) (j : ℕ) → k < length rows → column_from s (take (k + 1) rows) j ≡ column_from s (take k rows) j ++ terms_at (s + k) (get_or rows k d).terms j
column_from-take s [] k d j h = absurd (omega arith)
column_from-take s (row ∷ rows) zero d j h =
    let same : s + zero ≡ s = omega arith in
    rw same (append-nil (terms_at s row.terms j))
column_from-take s (row ∷ rows) (suc k) d j h =
    let more : suc k + 1 ≡ suc (k + 1) = omega arith in
    let same : s + 1 + k ≡ s + suc k = omega arith in
    rw more
    (ap (λ c. terms_at s row.terms j ++ c) (column_from-take (s + 1) rows k d j (omega arith))
    ∙ ap (λ n. terms_at s row.terms j ++ (column_from (s + 1) (take k rows) j ++ terms_at n (get_or rows k d).terms j)) same
    ∙ sym (append_assoc (terms_at s row.terms j) (column_from (s + 1) (take k rows) j) (terms_at (s + suc k) (get_or rows k d).terms j)))

-- before the first term nothing is added
pub AddsRow-none : (columns : List (List (ℕ × ℤ))) (row : ℕ) → AddsRow columns columns row []
AddsRow-none columns row = record { same_length = refl; added = λ j h. sym (append-nil (column_at columns j)) }

-- one term more of a row goes to the end of its column
pub AddsRow-more : (old now new : List (List (ℕ × ℤ))) (row : ℕ) (terms : List (ℕ × ℤ)) (k : ℕ) (d : ℕ × ℤ) → k < length terms → (get_or terms k d).0 < length now → AddsRow old now row (take k terms) → new ≡ set now (get_or terms k d).0 (column_at now (get_or terms k d).0 ++ (row, (get_or terms k d).1) ∷ []) → AddsRow old new row (take (k + 1) terms)
AddsRow-more old now new row terms k d h in_columns before is = record {
  same_length = ap length is ∙ length-set now (get_or terms k d).0 (column_at now (get_or terms k d).0 ++ (row, (get_or terms k d).1) ∷ []) ∙ before.same_length;
  added = λ j below. elim (same_or_other (get_or terms k d).0 j) [
    | inl e ↦
        let here : (get_or terms k d).0 ≡ j = e in
        ap (λ c. column_at c j) is
        ∙ ap (column_at (set now (get_or terms k d).0 (column_at now (get_or terms k d).0 ++ (row, (get_or terms k d).1) ∷ []))) (sym here)
        ∙ get_or-set_same now (get_or terms k d).0 (column_at now (get_or terms k d).0 ++ (row, (get_or terms k d).1) ∷ []) [] in_columns
        ∙ ap (λ c. c ++ (row, (get_or terms k d).1) ∷ []) (ap (column_at now) here ∙ before.added j below)
        ∙ append_assoc (column_at old j) (terms_at row (take k terms) j) ((row, (get_or terms k d).1) ∷ [])
        ∙ ap (λ t. column_at old j ++ t) (sym (terms_at-take_same row terms k d j h here))
    | inr e ↦
        let other : (get_or terms k d).0 ≢ j = e in
        let turned : j ≢ (get_or terms k d).0 = λ q. other (sym q) in
        ap (λ c. column_at c j) is
        ∙ get_or-set_other now (get_or terms k d).0 j (column_at now (get_or terms k d).0 ++ (row, (get_or terms k d).1) ∷ []) [] turned
        ∙ before.added j below
        ∙ ap (λ t. column_at old j ++ t) (sym (terms_at-take_other row terms k d j h other))
  ];
}

-- one row more
pub AreColumns-more : (old new : List (List (ℕ × ℤ))) (quantities : ℕ) (rows : List Row) (k : ℕ) (d : Row) → k < length rows → AreColumns old quantities (take k rows) → AddsRow old new k (get_or rows k d).terms → AreColumns new quantities (take (k + 1) rows)
AreColumns-more old new quantities rows k d h before adds = record {
  each_quantity = adds.same_length ∙ before.each_quantity;
  same_terms = λ j below.
      let in_old : j < length old = omega (arith, adds.same_length) in
      let same : 0 + k ≡ k = omega arith in
      adds.added j in_old
      ∙ ap (λ c. c ++ terms_at k (get_or rows k d).terms j) (before.same_terms j in_old)
      ∙ ap (λ n. column_of (take k rows) j ++ terms_at n (get_or rows k d).terms j) (sym same)
      ∙ sym (column_from-take 0 rows k d j h);
}
