-- Maps of sums by number: one sum more, the sums that are not 0, and all of them with the other sign.
use Rattle.std.proofs.Common.{◌≡◌, ◌≢◌, inl, inr, ℕ, zero, ◌+◌, ◌*◌, ◌^◌, ◌≤◌, ◌<◌, ◌==◌, Bool, true, false, not, List, [], ◌∷◌, ◌++◌, length, take, get_or, map, All, ℤ, pos, ◌+ℤ◌, neg_ℤ, unsigned_abs, refl, ap, sym, ◌∙◌, subst, arith, append_assoc}
use Rattle.std.specs.Prelude.{if◌then◌else◌}
use Rattle.std.specs.Ordering.{nat_cmp, int_eq}
use Rattle.std.specs.Cmp.{ranked, nat_cmp_is, signed_Decides}
use Rattle.std.specs.declared.cmp.Ordering.TheVariants.{Less, Equal, Greater}
use Rattle.std.specs.List.Sorted.{IsStrictlySortedBy}
use Rattle.std.specs.Map.{keys_of, lookup}
use Rattle.std.specs.Option.{unwrap_or}
use Rattle.std.specs.BTreeMap.{insert_entry, is_at}
use Rattle.std.proofs.lemmas.Int.{ints}
use Rattle.std.proofs.lemmas.Bool.{cases_order, both_ways}
use Rattle.std.proofs.lemmas.List.{length-map, get_or-map, map-append, take_more}
use Rattle.std.proofs.lemmas.List.Elements.{All-head, All-cons, All-nil, All-weaker}
use Rattle.std.proofs.lemmas.Map.Keys.{Less-from_sorted}
use Rattle.std.proofs.Math.Seq.{take-length}
use Rattle.opt_sums.specs.Entries.{coef, IsRising, HasNoZero}
use Rattle.opt_sums.proofs.EntryLemmas.{coef-none, one_same, one_other, same_or_other, coef-take}
use Rattle.opt_sums.proofs.RisingLemmas.{IsRising-tail, IsRising-head, IsRising-nil, IsRising-cons, coef-get_or}
use Rattle.opt_sums.proofs.Ring.{size_add}
use Rattle.opt_model.specs.Quantities.{list_if}
use Rattle.opt_rows.specs.Gathering.{HasSums, AddsEntry, without_zeros, other_sign}

-- ---- the order of keys
-- keys in order are rising numbers
pub sorted_rising : (es : List (ℕ × ℤ)) → IsStrictlySortedBy nat_cmp (keys_of es) → IsRising es
sorted_rising es sorted i j d below within =
    let less : nat_cmp (get_or (keys_of es) i d.0) (get_or (keys_of es) j d.0) ≡ Less = Less-from_sorted nat_cmp (keys_of es) i j d.0 sorted below (omega (arith, length-map es (λ e. e.0))) in
    let order : get_or (keys_of es) i d.0 < get_or (keys_of es) j d.0 = ranked (get_or (keys_of es) i d.0) (get_or (keys_of es) j d.0) Less (sym less) in
    let first : get_or (keys_of es) i d.0 ≡ (get_or es i d).0 = get_or-map (λ e. e.0) es i d d.0 (omega arith) in
    let second : get_or (keys_of es) j d.0 ≡ (get_or es j d).0 = get_or-map (λ e. e.0) es j d d.0 within in
    omega (arith, order, first, second)

-- the numbers after the first are none of those up to it
later_none : (e : ℕ × ℤ) (es : List (ℕ × ℤ)) (k : ℕ) → IsRising (e ∷ es) → k ≤ e.0 → coef es k ≡ pos 0
later_none e es k rising up_to = coef-none es k (All-weaker (λ a. e.0 < a.0) (λ a. a.0 ≢ k) (λ a above. omega arith) es (IsRising-head e es rising))

less_is : (n m : ℕ) → n < m → nat_cmp n m ≡ Less
less_is n m h = sym (nat_cmp_is n m Less h)

equal_is : (n m : ℕ) → n ≡ m → nat_cmp n m ≡ Equal
equal_is n m h = sym (nat_cmp_is n m Equal h)

greater_is : (n m : ℕ) → m < n → nat_cmp n m ≡ Greater
greater_is n m h = sym (nat_cmp_is n m Greater h)

-- ---- one sum more
-- what a map has at a number
pub found_sum : (es : List (ℕ × ℤ)) (n : ℕ) → IsRising es → unwrap_or (lookup (is_at (nat_cmp n)) es) (pos 0) ≡ coef es n
found_sum [] n rising = refl
found_sum (e ∷ es) n rising =
    elim (cases_order n e.0) [
      | inl h ↦
          let same : n ≡ e.0 = h in
          rw (equal_is n e.0 same) (omega (arith, ints, one_same e.0 n e.1 (sym same), later_none e es n rising (omega arith)))
      | inr (inl h) ↦
          let below : n < e.0 = h in
          let other : e.0 ≢ n = omega arith in
          rw (less_is n e.0 below) (omega (arith, ints, one_other e.0 n e.1 other, found_sum es n (IsRising-tail e es rising)))
      | inr (inr h) ↦
          let above : e.0 < n = h in
          let other : e.0 ≢ n = omega arith in
          rw (greater_is n e.0 above) (omega (arith, ints, one_other e.0 n e.1 other, found_sum es n (IsRising-tail e es rising)))
    ]

-- the sum at a number is set
set_here : (es : List (ℕ × ℤ)) (n : ℕ) (v : ℤ) → IsRising es → coef (insert_entry nat_cmp es n v) n ≡ v
set_here [] n v rising = omega (arith, ints, one_same n n v refl)
set_here (e ∷ es) n v rising =
    elim (cases_order n e.0) [
      | inl h ↦
          let same : n ≡ e.0 = h in
          rw (equal_is n e.0 same) (omega (arith, ints, one_same e.0 n v (sym same), later_none e es n rising (omega arith)))
      | inr (inl h) ↦
          let below : n < e.0 = h in
          let other : e.0 ≢ n = omega arith in
          rw (less_is n e.0 below) (omega (arith, ints, one_same n n v refl, one_other e.0 n e.1 other, later_none e es n rising (omega arith)))
      | inr (inr h) ↦
          let above : e.0 < n = h in
          let other : e.0 ≢ n = omega arith in
          rw (greater_is n e.0 above) (omega (arith, ints, one_other e.0 n e.1 other, set_here es n v (IsRising-tail e es rising)))
    ]

-- and each other one stays
set_elsewhere : (es : List (ℕ × ℤ)) (n : ℕ) (v : ℤ) (k : ℕ) → n ≢ k → coef (insert_entry nat_cmp es n v) k ≡ coef es k
set_elsewhere [] n v k apart = omega (arith, ints, one_other n k v apart)
set_elsewhere (e ∷ es) n v k apart =
    elim (cases_order n e.0) [
      | inl h ↦
          let same : n ≡ e.0 = h in
          let other : e.0 ≢ k = omega arith in
          rw (equal_is n e.0 same) (omega (arith, ints, one_other e.0 k v other, one_other e.0 k e.1 other))
      | inr (inl h) ↦
          let below : n < e.0 = h in
          rw (less_is n e.0 below) (omega (arith, ints, one_other n k v apart))
      | inr (inr h) ↦
          let above : e.0 < n = h in
          rw (greater_is n e.0 above) (omega (arith, ints, set_elsewhere es n v k apart))
    ]

-- an entry is added to the sum at its number
pub sum_more : (es : List (ℕ × ℤ)) (n : ℕ) (v z : ℤ) (k : ℕ) → IsRising es → v ≡ coef es n +ℤ z → coef (insert_entry nat_cmp es n v) k ≡ coef es k +ℤ (if n == k then z else pos 0)
sum_more es n v z k rising e =
    elim (same_or_other n k) [
      | inl h ↦
          let same : n ≡ k = h in
          let here : coef (insert_entry nat_cmp es n v) k ≡ v = ap (coef (insert_entry nat_cmp es n v)) (sym same) ∙ set_here es n v rising in
          let before : coef es n ≡ coef es k = ap (coef es) same in
          omega (arith, ints, here, before, e, one_same n k z same)
      | inr h ↦
          let apart : n ≢ k = h in
          omega (arith, ints, set_elsewhere es n v k apart, one_other n k z apart)
    ]

-- ---- the sums that are not 0
-- what is known of those that are left
record AreSome (k : ℕ) (es kept : List (ℕ × ℤ)) : Type 0 where
  rising : IsRising kept
  no_zero : HasNoZero kept
  same : (j : ℕ) → coef kept j ≡ coef es j
  from : All (λ a. k ≤ a.0) kept

some_one : (k : ℕ) (e : ℕ × ℤ) (es : List (ℕ × ℤ)) → k ≤ e.0 → AreSome (e.0 + 1) es (without_zeros es) → (b : Bool) → int_eq e.1 (pos 0) ≡ b
    → AreSome k (e ∷ es) (list_if (not b) (e ∷ []) ++ without_zeros es)
some_one k e es low rest true is =
    let none : e.1 ≡ pos 0 = (signed_Decides e.1 (pos 0)).0 is in
    record {
      rising = rest.rising;
      no_zero = rest.no_zero;
      same = λ j. rest.same j ∙ none_there j none;
      from = All-weaker (λ a. e.0 + 1 ≤ a.0) (λ a. k ≤ a.0) (λ a above. omega arith) (without_zeros es) rest.from;
    }
  where
    none_there : (j : ℕ) → e.1 ≡ pos 0 → coef es j ≡ coef (e ∷ es) j
    none_there j none =
        elim (same_or_other e.0 j) [
          | inl h ↦ let here : e.0 ≡ j = h in omega (arith, ints, one_same e.0 j e.1 here, none)
          | inr h ↦ let other : e.0 ≢ j = h in omega (arith, ints, one_other e.0 j e.1 other)
        ]
some_one k e es low rest false is =
    let some : e.1 ≢ pos 0 = λ same. both_ways (int_eq e.1 (pos 0)) is ((signed_Decides e.1 (pos 0)).1 same) in
    record {
      rising = IsRising-cons e (without_zeros es) (All-weaker (λ a. e.0 + 1 ≤ a.0) (λ a. e.0 < a.0) (λ a above. omega arith) (without_zeros es) rest.from) rest.rising;
      no_zero = All-cons (λ a. a.1 ≢ pos 0) e (without_zeros es) some rest.no_zero;
      same = λ j. omega (arith, ints, rest.same j);
      from = All-cons (λ a. k ≤ a.0) e (without_zeros es) low (All-weaker (λ a. e.0 + 1 ≤ a.0) (λ a. k ≤ a.0) (λ a above. omega arith) (without_zeros es) rest.from);
    }

some_are : (k : ℕ) (es : List (ℕ × ℤ)) → IsRising es → All (λ a. k ≤ a.0) es → AreSome k es (without_zeros es)
some_are k [] rising from = record { rising = IsRising-nil; no_zero = All-nil (λ a. a.1 ≢ pos 0); same = λ j. refl; from = All-nil (λ a. k ≤ a.0) }
some_are k (e ∷ es) rising from =
    some_one k e es (All-head (λ a. k ≤ a.0) e es from)
    (some_are (e.0 + 1) es (IsRising-tail e es rising) (All-weaker (λ a. e.0 < a.0) (λ a. e.0 + 1 ≤ a.0) (λ a above. omega arith) es (IsRising-head e es rising)))
    (int_eq e.1 (pos 0)) refl

from_none : (es : List (ℕ × ℤ)) → All (λ a. 0 ≤ a.0) es
from_none es i d within = omega arith

pub some_rising : (es : List (ℕ × ℤ)) → IsRising es → IsRising (without_zeros es)
some_rising es rising = (some_are 0 es rising (from_none es)).rising

pub some_no_zero : (es : List (ℕ × ℤ)) → IsRising es → HasNoZero (without_zeros es)
some_no_zero es rising = (some_are 0 es rising (from_none es)).no_zero

pub some_same : (es : List (ℕ × ℤ)) → IsRising es → (k : ℕ) → coef (without_zeros es) k ≡ coef es k
some_same es rising = (some_are 0 es rising (from_none es)).same

-- each entry of rising ones is the sum at its number
pub short_entries : (es : List (ℕ × ℤ)) (limit : ℕ) → IsRising es → ((k : ℕ) → unsigned_abs (coef es k) < limit) → All (λ e. unsigned_abs e.1 < limit) es
short_entries es limit rising short i d within =
    let is : coef es (get_or es i d).0 ≡ (get_or es i d).1 = coef-get_or es i d rising within in
    subst (λ (z : ℤ). unsigned_abs z < limit) is (short (get_or es i d).0)

-- ---- the other sign
-- an entry with the other sign
abbrev turned : ℕ × ℤ → ℕ × ℤ
turned e = (e.0, neg_ℤ e.1)

pub other_sign_coef : (es : List (ℕ × ℤ)) (k : ℕ) → coef (other_sign es) k ≡ neg_ℤ (coef es k)
other_sign_coef [] k = refl
other_sign_coef (e ∷ es) k =
    elim (same_or_other e.0 k) [
      | inl h ↦ let here : e.0 ≡ k = h in omega (arith, ints, one_same e.0 k e.1 here, one_same e.0 k (neg_ℤ e.1) here, other_sign_coef es k)
      | inr h ↦ let other : e.0 ≢ k = h in omega (arith, ints, one_other e.0 k e.1 other, one_other e.0 k (neg_ℤ e.1) other, other_sign_coef es k)
    ]

pub other_sign_rising : (es : List (ℕ × ℤ)) → IsRising es → IsRising (other_sign es)
other_sign_rising es rising i j d below within =
    let inside : j < length es = omega (arith, length-map es turned) in
    let first : get_or (other_sign es) i d ≡ ((get_or es i d).0, neg_ℤ (get_or es i d).1) = get_or-map turned es i d d (omega arith) in
    let second : get_or (other_sign es) j d ≡ ((get_or es j d).0, neg_ℤ (get_or es j d).1) = get_or-map turned es j d d inside in
    rw (first, second) (rising i j d below inside)

pub other_sign_no_zero : (es : List (ℕ × ℤ)) → HasNoZero es → HasNoZero (other_sign es)
other_sign_no_zero es no_zero i d within =
    let inside : i < length es = omega (arith, length-map es turned) in
    let is : get_or (other_sign es) i d ≡ ((get_or es i d).0, neg_ℤ (get_or es i d).1) = get_or-map turned es i d d inside in
    rw is (apart (get_or es i d).1 (no_zero i d inside))
  where
    apart : (z : ℤ) → z ≢ pos 0 → neg_ℤ z ≢ pos 0
    apart z some none = some (omega (arith, ints, none))

-- ---- the sums of some first entries
pub record AreSumsOf (entries : List (ℕ × ℤ)) (i : ℕ) (sums : List (ℕ × ℤ)) : Type 0 where
  pub ordered : IsStrictlySortedBy nat_cmp (keys_of sums)
  pub same : HasSums (take i entries) sums
  pub few : (k : ℕ) → unsigned_abs (coef sums k) ≤ i * 2 ^ 63

pub sums_none : (entries : List (ℕ × ℤ)) (sums : List (ℕ × ℤ)) → sums ≡ [] → IsStrictlySortedBy nat_cmp (keys_of sums) → AreSumsOf entries 0 sums
sums_none entries sums none ordered = record {
  ordered = ordered;
  same = λ k. ap (λ (es : List (ℕ × ℤ)). coef es k) none;
  few = λ k. let zero : coef sums k ≡ pos 0 = ap (λ (es : List (ℕ × ℤ)). coef es k) none in rw zero (omega arith);
}

pub sums_more : (entries : List (ℕ × ℤ)) (i : ℕ) (d : ℕ × ℤ) (old new : List (ℕ × ℤ)) → AreSumsOf entries i old → i < length entries → unsigned_abs (get_or entries i d).1 ≤ 2 ^ 63
    → IsStrictlySortedBy nat_cmp (keys_of new) → AddsEntry (get_or entries i d) old new → AreSumsOf entries (i + 1) new
sums_more entries i d old new so_far within size ordered added = record {
  ordered = ordered;
  same = λ k. omega (arith, ints, added k, so_far.same k, coef-take entries i d k within);
  few = λ k. few_more k;
}
  where
    one_size : (k : ℕ) → unsigned_abs (if (get_or entries i d).0 == k then (get_or entries i d).1 else pos 0) ≤ 2 ^ 63
    one_size k =
        elim (same_or_other (get_or entries i d).0 k) [
          | inl h ↦ let same : (get_or entries i d).0 ≡ k = h in rw (one_same (get_or entries i d).0 k (get_or entries i d).1 same) size
          | inr h ↦ let other : (get_or entries i d).0 ≢ k = h in rw (one_other (get_or entries i d).0 k (get_or entries i d).1 other) (omega arith)
        ]

    few_more : (k : ℕ) → unsigned_abs (coef new k) ≤ (i + 1) * 2 ^ 63
    few_more k =
        let up : unsigned_abs (coef new k) ≤ unsigned_abs (coef old k) + unsigned_abs (if (get_or entries i d).0 == k then (get_or entries i d).1 else pos 0) = rw (added k) (size_add (coef old k) (if (get_or entries i d).0 == k then (get_or entries i d).1 else pos 0)) in
        omega (arith, up, so_far.few k, one_size k)

-- what is known of all of them
pub sums_all : (entries : List (ℕ × ℤ)) (i : ℕ) (sums : List (ℕ × ℤ)) → AreSumsOf entries i sums → i ≡ length entries → HasSums entries sums
sums_all entries i sums so_far all k =
    so_far.same k ∙ ap (λ (es : List (ℕ × ℤ)). coef es k) (ap (λ (n : ℕ). take n entries) all ∙ take-length entries)

-- ---- the sums other than 0, one after another
pub zeros_more : (made now rest : List (ℕ × ℤ)) (e : ℕ × ℤ) (all : List (ℕ × ℤ)) → made ++ without_zeros (e ∷ rest) ≡ all → now ≡ made ++ without_zeros (e ∷ []) → now ++ without_zeros rest ≡ all
zeros_more made now rest e all so_far added =
    ap (λ (es : List (ℕ × ℤ)). es ++ without_zeros rest) added
    ∙ (append_assoc made (without_zeros (e ∷ [])) (without_zeros rest) ∙ (ap (λ (es : List (ℕ × ℤ)). made ++ es) (one (not (int_eq e.1 (pos 0)))) ∙ so_far))
  where
    one : (b : Bool) → (list_if b (e ∷ []) ++ []) ++ without_zeros rest ≡ list_if b (e ∷ []) ++ without_zeros rest
    one true = refl
    one false = refl

-- one entry more with the other sign
pub sign_more : (es made new : List (ℕ × ℤ)) (i : ℕ) (d : ℕ × ℤ) → made ≡ other_sign (take i es) → i < length es → new ≡ made ++ ((get_or es i d).0, neg_ℤ (get_or es i d).1) ∷ []
    → new ≡ other_sign (take (i + 1) es)
sign_more es made new i d so_far within added =
    added
    ∙ (ap (λ (ms : List (ℕ × ℤ)). ms ++ turned (get_or es i d) ∷ []) so_far
    ∙ (sym (map-append turned (take i es) (get_or es i d ∷ [])) ∙ ap (map turned) (sym (take_more es i d within))))
