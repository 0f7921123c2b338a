-- Entries that are taken together by number are the numbered coefficients of the terms.
use Rattle.std.proofs.Common.{◌≡◌, ◌≢◌, inl, inr, ℕ, zero, suc, ◌+◌, ◌≤◌, ◌<◌, ◌==◌, Bool, true, false, not, List, [], ◌∷◌, ◌++◌, length, get_or, Option, Some, None, ℤ, pos, All, refl, ap, sym, ◌∙◌, subst, arith}
use Rattle.std.specs.Prelude.{if◌then◌else◌, position}
use Rattle.std.specs.List.{position_or_len}
use Rattle.std.specs.Ordering.{int_eq}
use Rattle.std.specs.Cmp.{signed_Decides}
use Rattle.std.proofs.lemmas.Int.{ints}
use Rattle.std.proofs.lemmas.Bool.{cases_order, cases_lt, cond_below, both_ways}
use Rattle.std.proofs.lemmas.List.{get_or_default}
use Rattle.std.proofs.lemmas.List.Sums.{position_or_len_is}
use Rattle.std.proofs.lemmas.List.Quantifiers.{position-Some}
use Rattle.std.proofs.lemmas.List.Elements.{All-head, All-tail, All-cons, All-nil, All-append, All-weaker}
use Rattle.opt_sums.specs.Entries.{coef, IsRising, HasNoZero, AllBelow}
use Rattle.opt_sums.proofs.EntryLemmas.{coef-append, coef-none, one_same, one_other, same_or_other}
use Rattle.opt_sums.proofs.RisingLemmas.{IsRising-tail, IsRising-head, IsRising-nil, IsRising-cons}
use Rattle.opt_model.specs.Quantities.{list_if, same_quantity}
use Rattle.opt_model.specs.Rows.{Terms, coefficient, coefficients_by_number}
use Rattle.opt_model.specs.declared.quantity.Quantity.{Quantity}
use Rattle.opt_model.specs.declared.quantity.Quantity.TheVariants.{Ration}
use Rattle.opt_model.proofs.Quantities.{same_quantity-true, same_quantity-self}
use Rattle.opt_model.proofs.Sums.{over_from}
use Rattle.opt_rows.specs.Gathering.{entry_at, entry_of, entries_of}
use Rattle.opt_rows.proofs.Totals.{term_of}
use Rattle.opt_rows.proofs.Numbering.{AreDistinct, other_quantity}

-- ---- coefficients determine rising entries without 0
-- the first number of rising entries has its own coefficient
first_coef : (e : ℕ × ℤ) (es : List (ℕ × ℤ)) → IsRising (e ∷ es) → coef (e ∷ es) e.0 ≡ e.1
first_coef e es rising =
    let apart : All (λ a. a.0 ≢ e.0) es = All-weaker (λ a. e.0 < a.0) (λ a. a.0 ≢ e.0) (λ a below. omega arith) es (IsRising-head e es rising) in
    omega (arith, ints, one_same e.0 e.0 e.1 refl, coef-none es e.0 apart)

-- a number below the first has none
below_coef : (k : ℕ) (e : ℕ × ℤ) (es : List (ℕ × ℤ)) → IsRising (e ∷ es) → k < e.0 → coef (e ∷ es) k ≡ pos 0
below_coef k e es rising below =
    coef-none (e ∷ es) k
    (All-cons (λ a. a.0 ≢ k) e es (omega arith) (All-weaker (λ a. e.0 < a.0) (λ a. a.0 ≢ k) (λ a above. omega arith) es (IsRising-head e es rising)))

same_pair : (d e : ℕ × ℤ) → d.0 ≡ e.0 → d.1 ≡ e.1 → d ≡ e
same_pair d e p q =
    let number : ℕ → ℕ × ℤ = λ n. (n, d.1) in
    let value : ℤ → ℕ × ℤ = λ z. (e.0, z) in
    ap number p ∙ ap value q

pub rising_same : (xs ys : List (ℕ × ℤ)) → IsRising xs → IsRising ys → HasNoZero xs → HasNoZero ys → ((k : ℕ) → coef xs k ≡ coef ys k) → xs ≡ ys
rising_same [] [] rx ry zx zy same = refl
rising_same [] (y ∷ ys) rx ry zx zy same = absurd (All-head (λ e. e.1 ≢ pos 0) y ys zy (sym (first_coef y ys ry) ∙ sym (same y.0)))
rising_same (x ∷ xs) [] rx ry zx zy same = absurd (All-head (λ e. e.1 ≢ pos 0) x xs zx (sym (first_coef x xs rx) ∙ same x.0))
rising_same (x ∷ xs) (y ∷ ys) rx ry zx zy same =
    elim (cases_order x.0 y.0) [
      | inl e ↦
          let number : x.0 ≡ y.0 = e in
          let value : x.1 ≡ y.1 = sym (first_coef x xs rx) ∙ (same x.0 ∙ (ap (coef (y ∷ ys)) number ∙ first_coef y ys ry)) in
          let head : x ≡ y = same_pair x y number value in
          let rest : (k : ℕ) → coef xs k ≡ coef ys k = λ k.
          let here : (if x.0 == k then x.1 else pos 0) ≡ (if y.0 == k then y.1 else pos 0) = ap (λ (e : ℕ × ℤ). if e.0 == k then e.1 else pos 0) head in
          omega (arith, ints, here, same k)
          in
          ap (λ (e : ℕ × ℤ). e ∷ xs) head
          ∙ ap (λ (es : List (ℕ × ℤ)). y ∷ es)
          (rising_same xs ys (IsRising-tail x xs rx) (IsRising-tail y ys ry) (All-tail (λ e. e.1 ≢ pos 0) x xs zx) (All-tail (λ e. e.1 ≢ pos 0) y ys zy) rest)
      | inr (inl h) ↦
          let below : x.0 < y.0 = h in
          absurd (All-head (λ e. e.1 ≢ pos 0) x xs zx (sym (first_coef x xs rx) ∙ (same x.0 ∙ below_coef x.0 y ys ry below)))
      | inr (inr h) ↦
          let below : y.0 < x.0 = h in
          absurd (All-head (λ e. e.1 ≢ pos 0) y ys zy (sym (first_coef y ys ry) ∙ (sym (same y.0) ∙ below_coef y.0 x xs rx below)))
    ]

-- ---- the numbered coefficients
-- what is known of the terms of quantities that are numbered from k on
record AreNumbered (c : Quantity → ℤ) (k : ℕ) (qs : List Quantity) (es : List (ℕ × ℤ)) : Type 0 where
  rising : IsRising es
  no_zero : HasNoZero es
  from : All (λ e. k ≤ e.0) es
  at : (j : ℕ) (d : Quantity) → j < length qs → coef es (k + j) ≡ c (get_or qs j d)
  past : (j : ℕ) → k + length qs ≤ j → coef es j ≡ pos 0

-- the terms of these quantities are so
abbrev Numbered : (Quantity → ℤ) → ℕ → List Quantity → Type 0
Numbered c k qs = AreNumbered c k qs (over_from (term_of c) k qs)

numbered_more : (c : Quantity → ℤ) (k : ℕ) (q : Quantity) (qs : List Quantity) → Numbered c (k + 1) qs → (b : Bool) → int_eq (c q) (pos 0) ≡ b
    → AreNumbered c k (q ∷ qs) (list_if (not b) ((k, c q) ∷ []) ++ over_from (term_of c) (k + 1) qs)
numbered_more c k q qs h true e =
    let none : c q ≡ pos 0 = (signed_Decides (c q) (pos 0)).0 e in
    let from : All (λ a. k ≤ a.0) (over_from (term_of c) (k + 1) qs) = All-weaker (λ a. k + 1 ≤ a.0) (λ a. k ≤ a.0) (λ a above. omega arith) (over_from (term_of c) (k + 1) qs) h.from in
    let apart : All (λ a. a.0 ≢ k) (over_from (term_of c) (k + 1) qs) = All-weaker (λ a. k + 1 ≤ a.0) (λ a. a.0 ≢ k) (λ a above. omega arith) (over_from (term_of c) (k + 1) qs) h.from in
    record {
      rising = h.rising;
      no_zero = h.no_zero;
      from = from;
      at = at_more (coef-none (over_from (term_of c) (k + 1) qs) k apart) none;
      past = λ j beyond. h.past j (omega arith);
    }
  where
    at_more : coef (over_from (term_of c) (k + 1) qs) k ≡ pos 0 → c q ≡ pos 0 → (j : ℕ) (d : Quantity) → j < length (q ∷ qs) → coef (over_from (term_of c) (k + 1) qs) (k + j) ≡ c (get_or (q ∷ qs) j d)
    at_more before none zero d within = let f : k + 0 ≡ k = omega arith in ap (coef (over_from (term_of c) (k + 1) qs)) f ∙ (before ∙ sym none)
    at_more before none (suc j) d within =
        let f : k + suc j ≡ (k + 1) + j = omega arith in ap (coef (over_from (term_of c) (k + 1) qs)) f ∙ h.at j d (omega arith)
numbered_more c k q qs h false e =
    let some : c q ≢ pos 0 = λ same. both_ways (int_eq (c q) (pos 0)) e ((signed_Decides (c q) (pos 0)).1 same) in
    let above : All (λ a. k < a.0) (over_from (term_of c) (k + 1) qs) = All-weaker (λ a. k + 1 ≤ a.0) (λ a. k < a.0) (λ a h. omega arith) (over_from (term_of c) (k + 1) qs) h.from in
    let from : All (λ a. k ≤ a.0) (over_from (term_of c) (k + 1) qs) = All-weaker (λ a. k + 1 ≤ a.0) (λ a. k ≤ a.0) (λ a h. omega arith) (over_from (term_of c) (k + 1) qs) h.from in
    let apart : All (λ a. a.0 ≢ k) (over_from (term_of c) (k + 1) qs) = All-weaker (λ a. k + 1 ≤ a.0) (λ a. a.0 ≢ k) (λ a h. omega arith) (over_from (term_of c) (k + 1) qs) h.from in
    record {
      rising = IsRising-cons (k, c q) (over_from (term_of c) (k + 1) qs) above h.rising;
      no_zero = All-cons (λ a. a.1 ≢ pos 0) (k, c q) (over_from (term_of c) (k + 1) qs) some h.no_zero;
      from = All-cons (λ a. k ≤ a.0) (k, c q) (over_from (term_of c) (k + 1) qs) (omega arith) from;
      at = at_more (coef-none (over_from (term_of c) (k + 1) qs) k apart);
      past = λ j beyond. let other : k ≢ j = omega arith in omega (arith, ints, one_other k j (c q) other, h.past j (omega arith));
    }
  where
    at_more : coef (over_from (term_of c) (k + 1) qs) k ≡ pos 0 → (j : ℕ) (d : Quantity) → j < length (q ∷ qs)
        → coef ((k, c q) ∷ over_from (term_of c) (k + 1) qs) (k + j) ≡ c (get_or (q ∷ qs) j d)
    at_more before zero d within =
        let f : k + 0 ≡ k = omega arith in
        ap (coef ((k, c q) ∷ over_from (term_of c) (k + 1) qs)) f ∙ omega (arith, ints, one_same k k (c q) refl, before)
    at_more before (suc j) d within =
        let f : k + suc j ≡ (k + 1) + j = omega arith in
        let other : k ≢ (k + 1) + j = omega arith in
        ap (coef ((k, c q) ∷ over_from (term_of c) (k + 1) qs)) f ∙ omega (arith, ints, one_other k ((k + 1) + j) (c q) other, h.at j d (omega arith))

numbered : (c : Quantity → ℤ) (k : ℕ) (qs : List Quantity) → Numbered c k qs
numbered c k [] = record {
  rising = IsRising-nil;
  no_zero = All-nil (λ e. e.1 ≢ pos 0);
  from = All-nil (λ e. k ≤ e.0);
  at = λ j d within. absurd (omega arith);
  past = λ j beyond. refl;
}
numbered c k (q ∷ qs) = numbered_more c k q qs (numbered c (k + 1) qs) (int_eq (c q) (pos 0)) refl

-- the coefficients by number go by rising number, and none is 0
pub by_number_rising : (qs : List Quantity) (terms : Terms) → IsRising (coefficients_by_number qs terms)
by_number_rising qs terms = (numbered (coefficient terms) 0 qs).rising

pub by_number_no_zero : (qs : List Quantity) (terms : Terms) → HasNoZero (coefficients_by_number qs terms)
by_number_no_zero qs terms = (numbered (coefficient terms) 0 qs).no_zero

-- ---- the entries of terms
-- a quantity of the list is found at its own number
pub found_at : (qs : List Quantity) (k : ℕ) (d : Quantity) → AreDistinct qs → k < length qs → position (same_quantity (get_or qs k d)) qs ≡ Some k
found_at qs k d distinct within =
    let q : Quantity = get_or qs k d in
    let place : position_or_len (same_quantity q) qs ≡ k =
    position_or_len_is (same_quantity q) qs k d (omega arith) (λ j before. other_quantity q (get_or qs j d) (λ same. distinct j k d before within (sym same))) (λ h. same_quantity-self q) in
    rw place (sym (cond_below k (length qs) (Some k) None within))

-- what one term adds at a number
one_entry : (qs : List Quantity) (q : Quantity) (z : ℤ) (k : ℕ) (d : Quantity) → AreDistinct qs → k < length qs → (o : Option ℕ) → position (same_quantity q) qs ≡ o
    → coef (entry_at o z) k ≡ (if same_quantity q (get_or qs k d) then z else pos 0)
one_entry qs q z k d distinct within None e =
    let apart : q ≢ get_or qs k d = λ same. none_or_found (sym e ∙ (ap (λ r. position (same_quantity r) qs) same ∙ found_at qs k d distinct within)) in
    rw (other_quantity q (get_or qs k d) apart) refl
  where
    none_or_found : None ≡ Some k → ⊥
    none_or_found f = cc
one_entry qs q z k d distinct within (Some i) e =
    let found : (i < length qs) × (same_quantity q (get_or qs i q) ≡ true) × ((j : ℕ) → j < i → same_quantity q (get_or qs j q) ≡ false) = position-Some (same_quantity q) qs i q e in
    let is : q ≡ get_or qs i d = same_quantity-true q (get_or qs i q) found.1 ∙ get_or_default qs i q d found.0 in
    elim (same_or_other i k) [
      | inl f ↦
          let same : i ≡ k = f in
          let here : same_quantity q (get_or qs k d) ≡ true = subst (λ (n : ℕ). same_quantity q (get_or qs n d) ≡ true) same (subst (λ (r : Quantity). same_quantity q r ≡ true) is (same_quantity-self q)) in
          rw here (omega (arith, ints, one_same i k z same))
      | inr f ↦
          let other : i ≢ k = f in
          let apart : q ≢ get_or qs k d = λ same. other (one_number (sym (found_at qs i d distinct found.0) ∙ (ap (λ r. position (same_quantity r) qs) (sym is ∙ same) ∙ found_at qs k d distinct within))) in
          rw (other_quantity q (get_or qs k d) apart) (omega (arith, ints, one_other i k z other))
    ]
  where
    one_number : Some i ≡ Some k → i ≡ k
    one_number f = cc

pub entries_at : (qs : List Quantity) (terms : Terms) (k : ℕ) (d : Quantity) → AreDistinct qs → k < length qs → coef (entries_of qs terms) k ≡ coefficient terms (get_or qs k d)
entries_at qs [] k d distinct within = refl
entries_at qs (term ∷ terms) k d distinct within =
    omega (arith, ints, coef-append (entry_of qs term) (entries_of qs terms) k, one_entry qs term.0 term.1 k d distinct within (position (same_quantity term.0) qs) refl, entries_at qs terms k d distinct within)

one_below : (qs : List Quantity) (q : Quantity) (z : ℤ) (o : Option ℕ) → position (same_quantity q) qs ≡ o → AllBelow (length qs) (entry_at o z)
one_below qs q z None e = All-nil (λ a. a.0 < length qs)
one_below qs q z (Some i) e =
    let found : (i < length qs) × (same_quantity q (get_or qs i q) ≡ true) × ((j : ℕ) → j < i → same_quantity q (get_or qs j q) ≡ false) = position-Some (same_quantity q) qs i q e in
    All-cons (λ a. a.0 < length qs) (i, z) [] found.0 (All-nil (λ a. a.0 < length qs))

-- each entry has the number of a quantity of the list
pub entries_below : (qs : List Quantity) (terms : Terms) → AllBelow (length qs) (entries_of qs terms)
entries_below qs [] = All-nil (λ a. a.0 < length qs)
entries_below qs (term ∷ terms) =
    All-append (λ a. a.0 < length qs) (entry_of qs term) (entries_of qs terms) (one_below qs term.0 term.1 (position (same_quantity term.0) qs) refl) (entries_below qs terms)

-- the coefficients of the entries are those by number
pub entries_coef : (qs : List Quantity) (terms : Terms) (k : ℕ) → AreDistinct qs → coef (entries_of qs terms) k ≡ coef (coefficients_by_number qs terms) k
entries_coef qs terms k distinct =
    elim (cases_lt k (length qs)) [
      | inl h ↦
          let within : k < length qs = h in
          let d : Quantity = Ration 0 0 0 in
          let e : 0 + k ≡ k = omega arith in
          entries_at qs terms k d distinct within ∙ (sym ((numbered (coefficient terms) 0 qs).at k d within) ∙ ap (coef (coefficients_by_number qs terms)) e)
      | inr h ↦
          let past : length qs ≤ k = h in
          coef-none (entries_of qs terms) k (All-weaker (λ a. a.0 < length qs) (λ a. a.0 ≢ k) (λ a below. omega arith) (entries_of qs terms) (entries_below qs terms))
          ∙ sym ((numbered (coefficient terms) 0 qs).past k (omega arith))
    ]

-- entries that go by rising number, without 0, and have the coefficients of the terms are the coefficients by number
pub gathered_are : (qs : List Quantity) (terms : Terms) (xs : List (ℕ × ℤ)) → AreDistinct qs → IsRising xs → HasNoZero xs
    → ((k : ℕ) → coef xs k ≡ coef (entries_of qs terms) k) → xs ≡ coefficients_by_number qs terms
gathered_are qs terms xs distinct rising no_zero same =
    rising_same xs (coefficients_by_number qs terms) rising (by_number_rising qs terms) no_zero (by_number_no_zero qs terms) (λ k. same k ∙ entries_coef qs terms k distinct)
