-- A box with a quantity fixed lies in the box, and its ranges leave less room.
use Rattle.std.proofs.Common.{◌≡◌, ◌≢◌, ◌⊎◌, inl, inr, ℕ, zero, suc, ◌+◌, ◌≤◌, ◌<◌, List, [], ◌∷◌, length, set, ℤ, pos, ◌-ℤ◌, ◌≤ℤ◌, ◌<ℤ◌, unsigned_abs, refl, ap, sym, ◌∙◌, arith}
use Rattle.std.proofs.lemmas.Int.{ints}
use Rattle.std.proofs.Math.ListN.{length-set}
use Rattle.opt_sums.specs.Sums.{at}
use Rattle.opt_sums.proofs.EntryLemmas.{same_or_other}
use Rattle.opt_system.specs.Ranges.{Range, IsOrdered, LiesIn}
use Rattle.opt_system.proofs.CutLemmas.{at-set_same, at-set_other, LiesIn-refl, LiesIn-trans}
use Rattle.opt_simplex.specs.Soundness.{fraction_at}
use Rattle.opt_simplex.specs.Guide.{ceiling_of}
use Rattle.opt_dive.specs.Rounding.{bring_within, fix, fix_up, fix_first}

-- ---- which values the ends have then
end_of_fixed : (xs : List ℤ) (j : ℕ) (v : ℤ) (k : ℕ) → j < length xs → ((k ≡ j) × (at (set xs j v) k ≡ v)) ⊎ ((k ≢ j) × (at (set xs j v) k ≡ at xs k))
end_of_fixed xs j v k h =
    elim (same_or_other k j) [
      | inl e ↦ inl (e, ap (at (set xs j v)) e ∙ at-set_same xs j v h)
      | inr e ↦ inr (e, at-set_other xs j k v e)
    ]

module _ (box : Range) (j : ℕ) (v : ℤ) (ordered : IsOrdered box) (quantity : j < length box.low) (from_low : at box.low j ≤ℤ v) (to_high : v ≤ℤ at box.high j) where
  in_high : j < length box.high
  in_high = omega (arith, quantity, ordered.same_length)

  pub LiesIn-fix : LiesIn box (fix box j v)
  LiesIn-fix = record {
    same_length = length-set box.low j v;
    above = λ k h.
        elim (end_of_fixed box.low j v k quantity) [
          | inl w ↦ omega (arith, ints, from_low, w.1, ap (at box.low) w.0)
          | inr w ↦ omega (arith, ints, w.1)
        ];
    below = λ k h.
        elim (end_of_fixed box.high j v k in_high) [
          | inl w ↦ omega (arith, ints, to_high, w.1, ap (at box.high) w.0)
          | inr w ↦ omega (arith, ints, w.1)
        ];
  }

  pub IsOrdered-fix : IsOrdered (fix box j v)
  IsOrdered-fix = record {
    same_length = length-set box.low j v ∙ ordered.same_length ∙ sym (length-set box.high j v);
    from_zero = λ k h.
        let in_box : k < length box.low = omega (arith, h, length-set box.low j v) in
        let from : pos 0 ≤ℤ at box.low k = ordered.from_zero k in_box in
        let above : at box.low k ≤ℤ at (set box.low j v) k = LiesIn-fix.above k h in
        omega (arith, ints);
    rising = λ k h.
        let in_box : k < length box.low = omega (arith, h, length-set box.low j v) in
        let rising : at box.low k ≤ℤ at box.high k = ordered.rising k in_box in
        both k rising (end_of_fixed box.low j v k quantity) (end_of_fixed box.high j v k in_high);
  }
    where
      both : (k : ℕ) → at box.low k ≤ℤ at box.high k
          → ((k ≡ j) × (at (set box.low j v) k ≡ v)) ⊎ ((k ≢ j) × (at (set box.low j v) k ≡ at box.low k))
          → ((k ≡ j) × (at (set box.high j v) k ≡ v)) ⊎ ((k ≢ j) × (at (set box.high j v) k ≡ at box.high k))
          → at (set box.low j v) k ≤ℤ at (set box.high j v) k
      both k rising (inl a) (inl b) = omega (arith, ints, a.1, b.1)
      both k rising (inl a) (inr b) = absurd (b.0 a.0)
      both k rising (inr a) (inl b) = absurd (a.0 b.0)
      both k rising (inr a) (inr b) = omega (arith, ints, rising, a.1, b.1)

-- ---- one end put, then the other
pub fix-length : (box next : Range) (j : ℕ) (v : ℤ) → next ≡ record { low = set box.low j v; high = box.high } → length next.low ≡ length box.low
fix-length box next j v e = ap (λ (b : Range). length b.low) e ∙ length-set box.low j v

pub fix-low : (box next : Range) (j : ℕ) (v : ℤ) → next ≡ record { low = set box.low j v; high = box.high } → j < length box.low → at next.low j ≡ v
fix-low box next j v e h = ap (λ (b : Range). at b.low j) e ∙ at-set_same box.low j v h

pub fix-value : (box next last : Range) (j : ℕ) (v u w : ℤ) → next ≡ record { low = set box.low j u; high = box.high } → last ≡ record { low = next.low; high = set next.high j w } → u ≡ v → w ≡ v → last ≡ fix box j v
fix-value box next last j v u w low_is high_is e f =
    high_is
    ∙ ap (λ (b : Range). record { low = b.low; high = set b.high j w }) low_is
    ∙ ap (λ z. record { low = set box.low j z; high = set box.high j w }) e
    ∙ ap (λ z. record { low = set box.low j v; high = set box.high j z }) f

pub fix_up-value : (point : List (ℤ × ℤ)) (box next : Range) (j : ℕ) (v w low high up : ℤ) → next ≡ fix box j w → w ≡ v → v ≡ bring_within low high up
    → low ≡ at box.low j → high ≡ at box.high j → up ≡ ceiling_of (fraction_at point j) → next ≡ fix_up point box j
fix_up-value point box next j v w low high up value e within low_is high_is up_is =
    value
    ∙ ap (fix box j)
    (e ∙ within ∙ ap (λ l. bring_within l high up) low_is ∙ ap (λ h. bring_within (at box.low j) h up) high_is ∙ ap (bring_within (at box.low j) (at box.high j)) up_is)

-- ---- how much room there is
-- the widths of the ranges together
abbrev pub room_between : List ℤ → List ℤ → ℕ
room_between [] hs = 0
room_between (l ∷ ls) [] = 0
room_between (l ∷ ls) (h ∷ hs) = unsigned_abs (h -ℤ l) + room_between ls hs

abbrev pub room : Range → ℕ
room box = room_between box.low box.high

no_width : (v : ℤ) → unsigned_abs (v -ℤ v) ≡ 0
no_width v = omega (arith, ints)

some_width : (l u : ℤ) → l <ℤ u → 1 ≤ unsigned_abs (u -ℤ l)
some_width l u h = omega (arith, ints)

room_between-fix : (ls hs : List ℤ) (j : ℕ) (v : ℤ) → j < length ls → j < length hs → at ls j <ℤ at hs j → room_between (set ls j v) (set hs j v) < room_between ls hs
room_between-fix [] hs j v h k less = absurd (omega arith)
room_between-fix (l ∷ ls) [] j v h k less = absurd (omega arith)
room_between-fix (l ∷ ls) (u ∷ hs) zero v h k less = omega (arith, no_width v, some_width l u less)
room_between-fix (l ∷ ls) (u ∷ hs) (suc j) v h k less = omega (arith, room_between-fix ls hs j v (omega arith) (omega arith) less)

pub room-fix : (box : Range) (j : ℕ) (v : ℤ) → IsOrdered box → j < length box.low → at box.low j <ℤ at box.high j → room (fix box j v) < room box
room-fix box j v ordered h less = room_between-fix box.low box.high j v h (omega (arith, h, ordered.same_length)) less

-- ---- the first quantities fixed
-- the first n quantities of the box are fixed at these fractions rounded up, and that box lies within the first one
pub record AreFixed (n : ℕ) (point : List (ℤ × ℤ)) (box now : Range) : Type 0 where
  pub value : now ≡ fix_first n point box
  pub ordered : IsOrdered now
  pub within : LiesIn box now

pub fixed-start : (point : List (ℤ × ℤ)) (box : Range) → IsOrdered box → AreFixed 0 point box box
fixed-start point box ordered = record { value = refl; ordered = ordered; within = LiesIn-refl box }

one_more : (n : ℕ) → suc n ≡ n + 1
one_more n = omega arith

pub fixed-next : (n : ℕ) (point : List (ℤ × ℤ)) (box now next : Range) → AreFixed n point box now → next ≡ fix_up point now n → IsOrdered next → LiesIn now next
    → AreFixed (n + 1) point box next
fixed-next n point box now next fixed value ordered within =
    record {
      value = value ∙ ap (λ b. fix_up point b n) fixed.value ∙ ap (λ k. fix_first k point box) (one_more n);
      ordered = ordered;
      within = LiesIn-trans box now next fixed.within within;
    }
