-- What the tests of ranges and of order say.
use Rattle.std.proofs.Common.{◌≡◌, ℕ, zero, suc, ◌+◌, ◌^◌, ◌<◌, ◌≤◌, ◌==◌, nat_lt, nat_le, Bool, true, false, ◌&&◌, not, cond, List, [], ◌∷◌, length, get_or, Option, Some, None, Result, Ok, Err, ℤ, pos, negsuc, ◌≤ℤ◌, ◌≢◌, unsigned_abs, All, refl, sym, ap, ◌∙◌, subst, arith}
use Rattle.std.specs.List.{list_all, AllPairs}
use Rattle.std.specs.Option.{option_map, option_and_then}
use Rattle.std.proofs.lemmas.Int.{ints}
use Rattle.std.proofs.lemmas.Bool.Decides.{nat_tests}
use Rattle.std.proofs.lemmas.List.Elements.{All-nil, All-cons}
use Rattle.opt_sums.specs.Entries.{IsRising, HasNoZero}
use Rattle.opt_bound.specs.declared.limits.TheConstants.{MULTIPLIER_LIMIT}
use Rattle.opt_bound.specs.Multipliers.{Multipliers, IsProper}
use Rattle.opt_tree.specs.Certificates.{AreEntries, AreWritable}
use Rattle.opt_cert.specs.declared.entries.EntryKind.TheVariants.{Rows, Quantities}
use Rattle.opt_cert.specs.declared.limits.TheConstants.{NUMBER_LIMIT, VALUE_LIMIT}
use Rattle.opt_cert.specs.declared.line_fault.LineFault.TheVariants.{Order}
use Rattle.opt_cert.specs.Numbers.{pieces, numeral, plain_numeral, signed_numeral}
use Rattle.opt_cert.specs.Forms.{both, two, is_count, entry_form, entries_form, multipliers, multipliers_form, counted_form}
use Rattle.opt_cert.specs.Ranges.{number_in_range, weight_in_range, row_in_range, multiplier_in_range, multipliers_in_range, value_in_range, quantity_in_range, rises_from}
use Rattle.opt_cert.specs.Kinds.{list_form}
use Rattle.opt_cert.specs.Judging.{ranged, ordered, judged_multipliers, judged_entries}
use Rattle.opt_cert.proofs.JudgeLemmas.{ranged_ok, both_made}

-- ---- tests of lists
pub and_true : (a b : Bool) → (a && b) ≡ true → (a ≡ true) × (b ≡ true)
and_true true b h = (refl, h)
and_true false b h = cc

pub all_by : {A : Type 0} (test : A → Bool) (P : A → Type 0) → ((x : A) → test x ≡ true → P x) → (xs : List A) → list_all test xs ≡ true → All P xs
all_by test P each [] h = All-nil P
all_by test P each (x ∷ xs) h =
    let t = and_true (test x) (list_all test xs) h in
    All-cons P x xs (each x t.0) (all_by test P each xs t.1)

-- ---- order
pub above : (n : ℕ) (es : List (ℕ × ℤ)) → rises_from n es ≡ true → (k : ℕ) (d : ℕ × ℤ) → k < length es → n ≤ (get_or es k d).0
above n [] h k d l = absurd (omega arith)
above n (e ∷ es) h zero d l = let t = and_true (nat_le n e.0) (rises_from (e.0 + 1) es) h in grind (arith, nat_tests)
above n (e ∷ es) h (suc k) d l =
    let t = and_true (nat_le n e.0) (rises_from (e.0 + 1) es) h in
    let low : n ≤ e.0 = grind (arith, nat_tests) in
    let rest = above (e.0 + 1) es t.1 k d (omega arith) in
    omega (arith, low, rest)

pub rising_by : (n : ℕ) (es : List (ℕ × ℤ)) → rises_from n es ≡ true → (i j : ℕ) (d : ℕ × ℤ) → i < j → j < length es → (get_or es i d).0 < (get_or es j d).0
rising_by n [] h i j d l m = absurd (omega arith)
rising_by n (e ∷ es) h i zero d l m = absurd (omega arith)
rising_by n (e ∷ es) h zero (suc j) d l m =
    let t = and_true (nat_le n e.0) (rises_from (e.0 + 1) es) h in
    omega (arith, above (e.0 + 1) es t.1 j d (omega arith))
rising_by n (e ∷ es) h (suc i) (suc j) d l m =
    let t = and_true (nat_le n e.0) (rises_from (e.0 + 1) es) h in
    rising_by (e.0 + 1) es t.1 i j d (omega arith) (omega arith)

pub IsRising-by : (es : List (ℕ × ℤ)) → rises_from 0 es ≡ true → IsRising es
IsRising-by es h = λ i j d l m. rising_by 0 es h i j d l m

pub rises_by : (n : ℕ) (es : List (ℕ × ℤ)) → ((i j : ℕ) (d : ℕ × ℤ) → i < j → j < length es → (get_or es i d).0 < (get_or es j d).0) → ((k : ℕ) (d : ℕ × ℤ) → k < length es → n ≤ (get_or es k d).0) → rises_from n es ≡ true
rises_by n [] rising low = refl
rises_by n (e ∷ es) rising low =
    let first : nat_le n e.0 ≡ true = let l = low 0 e (omega arith) in grind (arith, nat_tests) in
    let rest = rises_by (e.0 + 1) es (λ i j d l m. rising (suc i) (suc j) d (omega arith) (omega arith)) (λ k d l. omega (arith, rising 0 (suc k) d (omega arith) (omega arith))) in
    ap (λ b. b && rises_from (e.0 + 1) es) first ∙ rest

pub rises-IsRising : (es : List (ℕ × ℤ)) → IsRising es → rises_from 0 es ≡ true
rises-IsRising es h = rises_by 0 es (λ i j d l m. h i j d l m) (λ k d l. omega arith)

not_true : (b : Bool) → (b ≡ true → ⊥) → b ≡ false
not_true true h = absurd (h refl)
not_true false h = refl

pub falls : (es : List (ℕ × ℤ)) → ¬ IsRising es → rises_from 0 es ≡ false
falls es h = not_true (rises_from 0 es) (λ e. h (IsRising-by es e))

-- ---- numbers
plain_from_zero : (o : Option ℕ) (z : ℤ) → option_map pos o ≡ Some z → pos 0 ≤ℤ z
plain_from_zero None z h = cc
plain_from_zero (Some n) z h = let e : z ≡ pos n = cc in omega (arith, ints, e)

pub plain_is_from_zero : (word : List ℕ) (z : ℤ) → plain_numeral word ≡ Some z → pos 0 ≤ℤ z
plain_is_from_zero word z h = plain_from_zero (numeral word) z h

weight_tells : (y : ℤ) → weight_in_range y ≡ true → (y ≢ pos 0) × (unsigned_abs y ≤ MULTIPLIER_LIMIT)
weight_tells y h =
    let t = and_true (not (unsigned_abs y == 0)) (nat_le (unsigned_abs y) MULTIPLIER_LIMIT) h in
    (λ e. let z : unsigned_abs y ≡ 0 = ap unsigned_abs e in grind (arith, nat_tests), grind (arith, nat_tests))

row_tells : (e : ℕ × ℤ) → row_in_range e ≡ true → (e.0 < 2 ^ 32) × (e.1 ≢ pos 0) × (unsigned_abs e.1 ≤ MULTIPLIER_LIMIT)
row_tells e h =
    let t = and_true (number_in_range e.0) (weight_in_range e.1) h in
    let w = weight_tells e.1 t.1 in
    let n : e.0 ≤ NUMBER_LIMIT = grind (arith, nat_tests) in
    (omega (arith, n), w.0, w.1)

-- multipliers in range whose rows rise may be written
pub writable : (q : ℤ) (es : List (ℕ × ℤ)) → pos 0 ≤ℤ q → multiplier_in_range q ≡ true → list_all row_in_range es ≡ true → IsRising es → AreWritable (multipliers q es)
writable q es from fits all rising = record {
  proper = record {
    q_from_zero = from;
    q_small = grind (arith, nat_tests);
    rising = rising;
    no_zero = all_by row_in_range (λ e. e.1 ≢ pos 0) (λ e t. (row_tells e t).1) es all;
    small = all_by row_in_range (λ e. unsigned_abs e.1 ≤ MULTIPLIER_LIMIT) (λ e t. (row_tells e t).2) es all;
  };
  rows = all_by row_in_range (λ e. e.0 < 2 ^ 32) (λ e t. (row_tells e t).0) es all;
}

-- what was read of multipliers
pub multipliers_read : (words : List (List ℕ)) (word : List ℕ) (rest : List (List ℕ)) (q : ℤ) (es : List (ℕ × ℤ)) → words ≡ word ∷ rest → ranged multiplier_in_range (plain_numeral word) ≡ Ok q → list_form Rows rest ≡ Ok es → judged_multipliers words ≡ cond (rises_from 0 es) (Ok (multipliers q es)) (Err Order)
multipliers_read words word rest q es is first list =
    ap judged_multipliers is
    ∙ ap (ordered (λ m. rises_from 0 m.entries)) (both_made multiplier_in_range (list_all row_in_range) multipliers multipliers_in_range (λ a b. refl) (plain_numeral word) (counted_form signed_numeral rest) q es first list)

pub multipliers_proper : (word : List ℕ) (rest : List (List ℕ)) (q : ℤ) (es : List (ℕ × ℤ)) → ranged multiplier_in_range (plain_numeral word) ≡ Ok q → list_form Rows rest ≡ Ok es → IsRising es → AreWritable (multipliers q es)
multipliers_proper word rest q es first list rising =
    let a = ranged_ok multiplier_in_range (plain_numeral word) q first in
    let b = ranged_ok (list_all row_in_range) (counted_form signed_numeral rest) es list in
    writable q es (plain_is_from_zero word q a.0) a.1 b.1 rising

-- ---- entries of a point
pub both_some : {A B C : Type 0} (make : A → B → C) (o : Option A) (p : Option B) (c : C) → both make o p ≡ Some c → (a : A) × (b : B) × (o ≡ Some a) × (p ≡ Some b) × (c ≡ make a b)
both_some make None p c h = cc
both_some make (Some a) None c h = cc
both_some make (Some a) (Some b) c h = (a, b, refl, refl, cc)

pub then_some : {A B : Type 0} (f : A → Option B) (o : Option A) (b : B) → option_and_then f o ≡ Some b → (a : A) × (o ≡ Some a) × (f a ≡ Some b)
then_some f None b h = cc
then_some f (Some a) b h = (a, refl, h)

entry_from_zero : (word : List ℕ) (e : ℕ × ℤ) → entry_form plain_numeral word ≡ Some e → pos 0 ≤ℤ e.1
entry_from_zero word e h =
    let t = then_some (λ p. both (λ n v. (n, v)) (numeral p.0) (plain_numeral p.1)) (two (pieces 58 word)) e h in
    let b = both_some (λ n v. (n, v)) (numeral t.0.0) (plain_numeral t.0.1) e t.2 in
    let from = plain_is_from_zero t.0.1 b.1 b.3 in
    let same : e.1 ≡ b.1 = ap (λ p. p.1) b.4 in
    omega (arith, ints, from, same)

entries_from_zero : (words : List (List ℕ)) (es : List (ℕ × ℤ)) → entries_form plain_numeral words ≡ Some es → All (λ e. pos 0 ≤ℤ e.1) es
entries_from_zero [] es h =
    let same : es ≡ [] = cc in
    let P : List (ℕ × ℤ) → Type 0 = λ xs. All (λ e. pos 0 ≤ℤ e.1) xs in
    subst P (sym same) (All-nil (λ e. pos 0 ≤ℤ e.1))
entries_from_zero (word ∷ words) es h =
    let b = both_some (λ e es. e ∷ es) (entry_form plain_numeral word) (entries_form plain_numeral words) es h in
    let P : List (ℕ × ℤ) → Type 0 = λ xs. All (λ e. pos 0 ≤ℤ e.1) xs in
    subst P (sym b.4) (All-cons (λ e. pos 0 ≤ℤ e.1) b.0 b.1 (entry_from_zero word b.0 b.2) (entries_from_zero words b.1 b.3))

chosen : (b : Bool) (xs ys : List (ℕ × ℤ)) → cond b (Some xs) None ≡ Some ys → ys ≡ xs
chosen true xs ys h = cc
chosen false xs ys h = cc

pub counted_from_zero : (words : List (List ℕ)) (es : List (ℕ × ℤ)) → counted_form plain_numeral words ≡ Some es → All (λ e. pos 0 ≤ℤ e.1) es
counted_from_zero [] es h = cc
counted_from_zero (count ∷ words) es h =
    let t = then_some (λ entries. cond (is_count (numeral count) entries) (Some entries) None) (entries_form plain_numeral words) es h in
    let same = chosen (is_count (numeral count) t.0) t.0 es t.2 in
    let P : List (ℕ × ℤ) → Type 0 = λ xs. All (λ e. pos 0 ≤ℤ e.1) xs in
    subst P (sym same) (entries_from_zero words t.0 t.1)

quantity_tells : (e : ℕ × ℤ) → quantity_in_range e ≡ true → (e.0 < 2 ^ 32) × (unsigned_abs e.1 ≢ 0) × (unsigned_abs e.1 < 2 ^ 63)
quantity_tells e h =
    let t = and_true (number_in_range e.0) (value_in_range e.1) h in
    let v = and_true (not (unsigned_abs e.1 == 0)) (nat_le (unsigned_abs e.1) VALUE_LIMIT) t.1 in
    let n : e.0 ≤ NUMBER_LIMIT = grind (arith, nat_tests) in
    let most : unsigned_abs e.1 ≤ VALUE_LIMIT = grind (arith, nat_tests) in
    (omega (arith, n), grind (arith, nat_tests), omega (arith, most))

from_one : (z : ℤ) → pos 0 ≤ℤ z → unsigned_abs z ≢ 0 → pos 1 ≤ℤ z
from_one (pos zero) h n = absurd (n refl)
from_one (pos (suc k)) h n = omega (arith, ints)
from_one (negsuc k) h n = absurd (omega (arith, ints, h))

-- entries in range whose quantities rise are those of a point
pub AreEntries-read : (es : List (ℕ × ℤ)) → All (λ e. pos 0 ≤ℤ e.1) es → list_all quantity_in_range es ≡ true → IsRising es → AreEntries es
AreEntries-read es from all rising = record {
  rising = rising;
  quantities = all_by quantity_in_range (λ e. e.0 < 2 ^ 32) (λ e t. (quantity_tells e t).0) es all;
  from_one = λ k d l. from_one (get_or es k d).1 (from k d l) ((all_by quantity_in_range (λ e. unsigned_abs e.1 ≢ 0) (λ e t. (quantity_tells e t).1) es all) k d l);
  small = all_by quantity_in_range (λ e. unsigned_abs e.1 < 2 ^ 63) (λ e t. (quantity_tells e t).2) es all;
}

pub entries_proper : (words : List (List ℕ)) (es : List (ℕ × ℤ)) → list_form Quantities words ≡ Ok es → IsRising es → AreEntries es
entries_proper words es list rising =
    let b = ranged_ok (list_all quantity_in_range) (counted_form plain_numeral words) es list in
    AreEntries-read es (counted_from_zero words es b.0) b.1 rising
