-- A point is the one that its entries list.
use Rattle.std.proofs.Common.{◌≡◌, inl, inr, ℕ, zero, suc, ◌+◌, ◌<◌, ◌≤◌, ◌==◌, Bool, true, false, cond, not, List, [], ◌∷◌, length, map, filter, ℤ, pos, negsuc, unsigned_abs, All, refl, ap, ◌∙◌, arith, ◌^◌, ◌≤ℤ◌}
use Rattle.std.specs.List.{enumerate_from, range_with_len}
use Rattle.std.proofs.lemmas.Int.{ints}
use Rattle.std.proofs.lemmas.List.Elements.{All-nil, All-cons, All-weaker}
use Rattle.std.proofs.lemmas.Bool.Decides.{nat_tests}
use Rattle.opt_sums.specs.Sums.{at}
use Rattle.opt_sums.specs.Entries.{coef, IsRising}
use Rattle.opt_sums.proofs.RisingLemmas.{IsRising-nil, IsRising-cons}
use Rattle.opt_sums.proofs.EntryLemmas.{same_or_other, one_same, one_other}
use Rattle.opt_tree.specs.Certificates.{AreEntries, point_of, entries_of}

-- the entries of values that are numbered from n on
abbrev entries_from : ℕ → List ℤ → List (ℕ × ℤ)
entries_from n x = filter (λ e. not (unsigned_abs e.1 == 0)) (enumerate_from n x)

not_zero : (a : ℕ) → 0 < a → not (a == 0) ≡ false → ⊥
not_zero a h is = let other : (a == 0) ≡ false = grind (arith, nat_tests) in cc

-- an entry of value 0 more or less is the same
kept_or_not : (b : Bool) (n : ℕ) (v : ℤ) (es : List (ℕ × ℤ)) (k : ℕ) → not (unsigned_abs v == 0) ≡ b → coef (cond b ((n, v) ∷ es) es) k ≡ coef ((n, v) ∷ es) k
kept_or_not true n v es k h = refl
kept_or_not false n (pos zero) es k h =
    elim (same_or_other n k) [
      | inl e ↦ omega (arith, ints, one_same n k (pos 0) e)
      | inr e ↦ omega (arith, ints, one_other n k (pos 0) e)
    ]
kept_or_not false n (pos (suc a)) es k h = absurd (not_zero (unsigned_abs (pos (suc a))) (omega arith) h)
kept_or_not false n (negsuc a) es k h = absurd (not_zero (unsigned_abs (negsuc a)) (omega arith) h)

coef-entries_before : (n : ℕ) (x : List ℤ) (k : ℕ) → k < n → coef (entries_from n x) k ≡ pos 0
coef-entries_before n [] k h = refl
coef-entries_before n (v ∷ x) k h =
    omega (arith, ints, kept_or_not (not (unsigned_abs v == 0)) n v (entries_from (n + 1) x) k refl, one_other n k v (omega arith), coef-entries_before (n + 1) x k (omega arith))

coef-entries_from : (n : ℕ) (x : List ℤ) (i : ℕ) → coef (entries_from n x) (n + i) ≡ at x i
coef-entries_from n [] i = refl
coef-entries_from n (v ∷ x) zero =
    omega (arith, ints, kept_or_not (not (unsigned_abs v == 0)) n v (entries_from (n + 1) x) (n + zero) refl, one_same n (n + zero) v (omega arith), coef-entries_before (n + 1) x (n + zero) (omega arith))
coef-entries_from n (v ∷ x) (suc i) =
    let same : n + suc i ≡ n + 1 + i = omega arith in
    omega (arith, ints, kept_or_not (not (unsigned_abs v == 0)) n v (entries_from (n + 1) x) (n + suc i) refl, one_other n (n + suc i) v (omega arith), ap (coef (entries_from (n + 1) x)) same, coef-entries_from (n + 1) x i)

-- the entries say each value of the point
pub coef-entries_of : (x : List ℤ) (j : ℕ) → coef (entries_of x) j ≡ at x j
coef-entries_of x j =
    let e : j ≡ 0 + j = omega arith in
    ap (coef (entries_of x)) e ∙ coef-entries_from 0 x j

listed_from : (es : List (ℕ × ℤ)) (a : ℕ) (x : List ℤ) → ((i : ℕ) → coef es (a + i) ≡ at x i) → map (coef es) (range_with_len a (length x)) ≡ x
listed_from es a [] h = refl
listed_from es a (v ∷ x) h =
    let first : coef es a ≡ v = (let e : a ≡ a + 0 = omega arith in ap (coef es) e ∙ h 0) in
    let rest : map (coef es) (range_with_len (a + 1) (length x)) ≡ x = listed_from es (a + 1) x (λ i. let e : a + 1 + i ≡ a + suc i = omega arith in ap (coef es) e ∙ h (suc i)) in
    ap (λ u. u ∷ map (coef es) (range_with_len (a + 1) (length x))) first ∙ ap (λ us. v ∷ us) rest

-- a point is the one that its entries list
pub point_of-entries_of : (x : List ℤ) → point_of (length x) (entries_of x) ≡ x
point_of-entries_of x = listed_from (entries_of x) 0 x (λ i. coef-entries_from 0 x i)

-- ---- the entries are those of a certificate
-- an entry of a point whose values are numbered from n on, and are less than end
record IsEntry (n end : ℕ) (e : ℕ × ℤ) : Type 0 where
  from : n ≤ e.0
  below : e.0 < end
  from_one : pos 1 ≤ℤ e.1
  small : unsigned_abs e.1 < 2 ^ 63

-- values from 0 on that fit 63 bits
pub record AreValues (x : List ℤ) : Type 0 where
  pub from_zero : (j : ℕ) → j < length x → pos 0 ≤ℤ at x j
  pub small : (j : ℕ) → j < length x → unsigned_abs (at x j) < 2 ^ 63

AreValues-tail : (v : ℤ) (x : List ℤ) → AreValues (v ∷ x) → AreValues x
AreValues-tail v x values = record {
  from_zero = λ j h. values.from_zero (suc j) (omega arith);
  small = λ j h. values.small (suc j) (omega arith);
}

at_least_one : (v : ℤ) → pos 0 ≤ℤ v → not (unsigned_abs v == 0) ≡ true → pos 1 ≤ℤ v
at_least_one (pos zero) h is = cc
at_least_one (pos (suc a)) h is = omega (arith, ints)
at_least_one (negsuc a) h is = absurd (omega (arith, ints))

record FromHere (n end : ℕ) (es : List (ℕ × ℤ)) : Type 0 where
  rising : IsRising es
  each : All (IsEntry n end) es

from_next : (n end : ℕ) (v : ℤ) (es : List (ℕ × ℤ)) (b : Bool) → n < end → not (unsigned_abs v == 0) ≡ b → pos 0 ≤ℤ v → unsigned_abs v < 2 ^ 63 → FromHere (n + 1) end es → FromHere n end (cond b ((n, v) ∷ es) es)
from_next n end v es false h is from small rest = record {
  rising = rest.rising;
  each = All-weaker (IsEntry (n + 1) end) (IsEntry n end) (λ e i. record { from = omega (arith, i.from); below = i.below; from_one = i.from_one; small = i.small }) es rest.each;
}
from_next n end v es true h is from small rest = record {
  rising = IsRising-cons (n, v) es (All-weaker (IsEntry (n + 1) end) (λ e. n < e.0) (λ e i. omega (arith, i.from)) es rest.each) rest.rising;
  each = All-cons (IsEntry n end) (n, v) es
      (record { from = omega arith; below = h; from_one = at_least_one v from is; small = small })
      (All-weaker (IsEntry (n + 1) end) (IsEntry n end) (λ e i. record { from = omega (arith, i.from); below = i.below; from_one = i.from_one; small = i.small }) es rest.each);
}

from_here : (n end : ℕ) (x : List ℤ) → n + length x ≤ end → AreValues x → FromHere n end (entries_from n x)
from_here n end [] h values = record { rising = IsRising-nil; each = All-nil (IsEntry n end) }
from_here n end (v ∷ x) h values =
    from_next n end v (entries_from (n + 1) x) (not (unsigned_abs v == 0)) (omega arith) refl (values.from_zero 0 (omega arith)) (values.small 0 (omega arith)) (from_here (n + 1) end x (omega arith) (AreValues-tail v x values))

-- the entries of a point of at most 2^32 values from 0 to 2^63 - 1 are those of a certificate
pub AreEntries-entries_of : (x : List ℤ) → length x ≤ 2 ^ 32 → AreValues x → AreEntries (entries_of x)
AreEntries-entries_of x many values =
    let all : FromHere 0 (2 ^ 32) (entries_of x) = from_here 0 (2 ^ 32) x (omega arith) values in
    record {
      rising = all.rising;
      quantities = All-weaker (IsEntry 0 (2 ^ 32)) (λ e. e.0 < 2 ^ 32) (λ e i. i.below) (entries_of x) all.each;
      from_one = All-weaker (IsEntry 0 (2 ^ 32)) (λ e. pos 1 ≤ℤ e.1) (λ e i. i.from_one) (entries_of x) all.each;
      small = All-weaker (IsEntry 0 (2 ^ 32)) (λ e. unsigned_abs e.1 < 2 ^ 63) (λ e i. i.small) (entries_of x) all.each;
    }
