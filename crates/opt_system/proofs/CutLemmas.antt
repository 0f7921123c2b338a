-- Boxes: which lie in which, the halves of a cut and the points in them, and how many points there are.
use Rattle.std.proofs.Common.{◌≡◌, ◌≢◌, ◌⊎◌, inl, inr, ℕ, zero, suc, ◌+◌, ◌*◌, ◌≤◌, ◌<◌, List, [], ◌∷◌, length, set, ℤ, pos, ◌+ℤ◌, ◌-ℤ◌, ◌≤ℤ◌, ◌<ℤ◌, unsigned_abs, refl, ap, sym, ◌∙◌, arith, get_or-set_other, get_or-set_same}
use Rattle.std.proofs.lemmas.Int.{ints}
use Rattle.std.proofs.lemmas.List.{ext_get_or}
use Rattle.std.proofs.Math.ListN.{length-set}
use Rattle.std.proofs.Math.Nat.{mul-le-mul_left, mul-le-mul_right}
use Rattle.opt_sums.specs.Sums.{at}
use Rattle.opt_sums.proofs.EntryLemmas.{same_or_other}
use Rattle.opt_system.specs.Ranges.{Range, IsOrdered, IsWithin, LiesIn, points, points_between}
use Rattle.opt_system.specs.Cuts.{IsCut, left_half, right_half}

-- ---- which boxes lie in which
pub LiesIn-refl : (box : Range) → LiesIn box box
LiesIn-refl box = record {
  same_length = refl;
  above = λ j h. omega (arith, ints);
  below = λ j h. omega (arith, ints);
}

pub LiesIn-trans : (outer middle inner : Range) → LiesIn outer middle → LiesIn middle inner → LiesIn outer inner
LiesIn-trans outer middle inner first second = record {
  same_length = second.same_length ∙ first.same_length;
  above = λ j h.
      let in_middle : j < length middle.low = omega (arith, second.same_length) in
      let outside : at outer.low j ≤ℤ at middle.low j = first.above j in_middle in
      let inside : at middle.low j ≤ℤ at inner.low j = second.above j h in
      omega (arith, ints);
  below = λ j h.
      let in_middle : j < length middle.low = omega (arith, second.same_length) in
      let outside : at middle.high j ≤ℤ at outer.high j = first.below j in_middle in
      let inside : at inner.high j ≤ℤ at middle.high j = second.below j h in
      omega (arith, ints);
}

-- a point of the inner box is one of the outer box
pub IsWithin-LiesIn : (outer inner : Range) (x : List ℤ) → LiesIn outer inner → IsWithin inner x → IsWithin outer x
IsWithin-LiesIn outer inner x lies inside = record {
  same_length = inside.same_length ∙ lies.same_length;
  above = λ j h.
      let in_inner : j < length inner.low = omega (arith, inside.same_length) in
      let outside : at outer.low j ≤ℤ at inner.low j = lies.above j in_inner in
      let above : at inner.low j ≤ℤ at x j = inside.above j h in
      omega (arith, ints);
  below = λ j h.
      let in_inner : j < length inner.low = omega (arith, inside.same_length) in
      let outside : at inner.high j ≤ℤ at outer.high j = lies.below j in_inner in
      let below : at x j ≤ℤ at inner.high j = inside.below j h in
      omega (arith, ints);
}

-- ---- the halves of a cut
-- one end of one quantity is another
pub at-set_same : (xs : List ℤ) (j : ℕ) (v : ℤ) → j < length xs → at (set xs j v) j ≡ v
at-set_same xs j v h = get_or-set_same xs j v (pos 0) h

pub at-set_other : (xs : List ℤ) (j k : ℕ) (v : ℤ) → k ≢ j → at (set xs j v) k ≡ at xs k
at-set_other xs j k v h = get_or-set_other xs j k v (pos 0) h

-- in the left half the greatest value of quantity j is t, and the others' are those of the box
high_left : (box : Range) (j : ℕ) (t : ℤ) (k : ℕ) → IsOrdered box → IsCut box j t → ((k ≡ j) × (at (left_half box j t).high k ≡ t)) ⊎ ((k ≢ j) × (at (left_half box j t).high k ≡ at box.high k))
high_left box j t k ordered cut =
    elim (same_or_other k j) [
      | inl e ↦ inl (e, ap (at (set box.high j t)) e ∙ at-set_same box.high j t (omega (arith, cut.quantity, ordered.same_length)))
      | inr e ↦ inr (e, at-set_other box.high j k t e)
    ]

-- in the right half the least value of quantity j is t + 1, and the others' are those of the box
low_right : (box : Range) (j : ℕ) (t : ℤ) (k : ℕ) → IsCut box j t → ((k ≡ j) × (at (right_half box j t).low k ≡ t +ℤ pos 1)) ⊎ ((k ≢ j) × (at (right_half box j t).low k ≡ at box.low k))
low_right box j t k cut =
    elim (same_or_other k j) [
      | inl e ↦ inl (e, ap (at (set box.low j (t +ℤ pos 1))) e ∙ at-set_same box.low j (t +ℤ pos 1) cut.quantity)
      | inr e ↦ inr (e, at-set_other box.low j k (t +ℤ pos 1) e)
    ]

pub LiesIn-left : (box : Range) (j : ℕ) (t : ℤ) → IsOrdered box → IsCut box j t → LiesIn box (left_half box j t)
LiesIn-left box j t ordered cut = record {
  same_length = refl;
  above = λ k h. omega (arith, ints);
  below = λ k h.
      let under : t <ℤ at box.high j = cut.below_high in
      elim (high_left box j t k ordered cut) [
        | inl w ↦ omega (arith, ints, w.1, ap (at box.high) w.0)
        | inr w ↦ omega (arith, ints, w.1)
      ];
}

pub LiesIn-right : (box : Range) (j : ℕ) (t : ℤ) → IsCut box j t → LiesIn box (right_half box j t)
LiesIn-right box j t cut = record {
  same_length = length-set box.low j (t +ℤ pos 1);
  above = λ k h.
      let over : at box.low j ≤ℤ t = cut.from_low in
      elim (low_right box j t k cut) [
        | inl w ↦ omega (arith, ints, w.1, ap (at box.low) w.0)
        | inr w ↦ omega (arith, ints, w.1)
      ];
  below = λ k h. omega (arith, ints);
}

pub IsOrdered-left : (box : Range) (j : ℕ) (t : ℤ) → IsOrdered box → IsCut box j t → IsOrdered (left_half box j t)
IsOrdered-left box j t ordered cut = record {
  same_length = ordered.same_length ∙ sym (length-set box.high j t);
  from_zero = ordered.from_zero;
  rising = λ k h.
      let over : at box.low j ≤ℤ t = cut.from_low in
      let rising : at box.low k ≤ℤ at box.high k = ordered.rising k h in
      elim (high_left box j t k ordered cut) [
        | inl w ↦ omega (arith, ints, w.1, ap (at box.low) w.0)
        | inr w ↦ omega (arith, ints, w.1)
      ];
}

pub IsOrdered-right : (box : Range) (j : ℕ) (t : ℤ) → IsOrdered box → IsCut box j t → IsOrdered (right_half box j t)
IsOrdered-right box j t ordered cut = record {
  same_length = length-set box.low j (t +ℤ pos 1) ∙ ordered.same_length;
  from_zero = λ k h.
      let in_box : k < length box.low = omega (arith, length-set box.low j (t +ℤ pos 1)) in
      let from : pos 0 ≤ℤ at box.low k = ordered.from_zero k in_box in
      let over : at box.low j ≤ℤ t = cut.from_low in
      elim (low_right box j t k cut) [
        | inl w ↦ omega (arith, ints, w.1, ap (at box.low) w.0)
        | inr w ↦ omega (arith, ints, w.1)
      ];
  rising = λ k h.
      let in_box : k < length box.low = omega (arith, length-set box.low j (t +ℤ pos 1)) in
      let rising : at box.low k ≤ℤ at box.high k = ordered.rising k in_box in
      let under : t <ℤ at box.high j = cut.below_high in
      elim (low_right box j t k cut) [
        | inl w ↦ omega (arith, ints, w.1, ap (at box.high) w.0)
        | inr w ↦ omega (arith, ints, w.1)
      ];
}

-- ---- a point of the box lies in just one half
within_left : (box : Range) (j : ℕ) (t : ℤ) (x : List ℤ) → IsOrdered box → IsCut box j t → IsWithin box x → at x j ≤ℤ t → IsWithin (left_half box j t) x
within_left box j t x ordered cut inside low = record {
  same_length = inside.same_length;
  above = inside.above;
  below = λ k h.
      let below : at x k ≤ℤ at box.high k = inside.below k h in
      elim (high_left box j t k ordered cut) [
        | inl w ↦ omega (arith, ints, w.1, ap (at x) w.0)
        | inr w ↦ omega (arith, ints, w.1)
      ];
}

within_right : (box : Range) (j : ℕ) (t : ℤ) (x : List ℤ) → IsCut box j t → IsWithin box x → t <ℤ at x j → IsWithin (right_half box j t) x
within_right box j t x cut inside high = record {
  same_length = inside.same_length ∙ sym (length-set box.low j (t +ℤ pos 1));
  above = λ k h.
      let above : at box.low k ≤ℤ at x k = inside.above k h in
      elim (low_right box j t k cut) [
        | inl w ↦ omega (arith, ints, w.1, ap (at x) w.0)
        | inr w ↦ omega (arith, ints, w.1)
      ];
  below = inside.below;
}

pub in_a_half : (box : Range) (j : ℕ) (t : ℤ) (x : List ℤ) → IsOrdered box → IsCut box j t → IsWithin box x → IsWithin (left_half box j t) x ⊎ IsWithin (right_half box j t) x
in_a_half box j t x ordered cut inside =
    elim (at_most_or_above (at x j) t) [
      | inl low ↦ inl (within_left box j t x ordered cut inside low)
      | inr high ↦ inr (within_right box j t x cut inside high)
    ]
  where
    at_most_or_above : (a b : ℤ) → (a ≤ℤ b) ⊎ (b <ℤ a)
    at_most_or_above a b = grind (arith, ints)

pub not_in_both : (box : Range) (j : ℕ) (t : ℤ) (x : List ℤ) → IsOrdered box → IsCut box j t → IsWithin (left_half box j t) x → IsWithin (right_half box j t) x → ⊥
not_in_both box j t x ordered cut left right =
    let in_x : j < length x = omega (arith, left.same_length, cut.quantity) in
    let low : at x j ≤ℤ at (left_half box j t).high j = left.below j in_x in
    let high : at (right_half box j t).low j ≤ℤ at x j = right.above j in_x in
    omega (arith, ints, at-set_same box.high j t (omega (arith, cut.quantity, ordered.same_length)), at-set_same box.low j (t +ℤ pos 1) cut.quantity)

-- ---- how many points there are
-- the points of the parts of a range of one quantity
parts : (l h t : ℤ) → l ≤ℤ t → t <ℤ h → unsigned_abs ((h -ℤ l) +ℤ pos 1) ≡ unsigned_abs ((t -ℤ l) +ℤ pos 1) + unsigned_abs ((h -ℤ (t +ℤ pos 1)) +ℤ pos 1)
parts l h t p q = omega (arith, ints)

points_between-cut : (ls hs : List ℤ) (j : ℕ) (t : ℤ) → length ls ≡ length hs → j < length ls → at ls j ≤ℤ t → t <ℤ at hs j → points_between ls hs ≡ points_between ls (set hs j t) + points_between (set ls j (t +ℤ pos 1)) hs
points_between-cut [] hs j t same h low high = absurd (omega arith)
points_between-cut (l ∷ ls) [] j t same h low high = absurd (omega arith)
points_between-cut (l ∷ ls) (u ∷ hs) zero t same h low high =
    omega (arith, ap (λ n. n * points_between ls hs) (parts l u t low high))
points_between-cut (l ∷ ls) (u ∷ hs) (suc j) t same h low high =
    omega (arith, ap (λ n. unsigned_abs ((u -ℤ l) +ℤ pos 1) * n) (points_between-cut ls hs j t (omega arith) (omega arith) low high))

-- the points of a box are those of its halves together
pub points-halves : (box : Range) (j : ℕ) (t : ℤ) → IsOrdered box → IsCut box j t → points box ≡ points (left_half box j t) + points (right_half box j t)
points-halves box j t ordered cut =
    points_between-cut box.low box.high j t ordered.same_length cut.quantity cut.from_low cut.below_high

-- each quantity has a value
abbrev IsRisen : List ℤ → List ℤ → Type 0
IsRisen ls hs = (k : ℕ) → k < length ls → at ls k ≤ℤ at hs k

rest_risen : (l u : ℤ) (ls hs : List ℤ) → IsRisen (l ∷ ls) (u ∷ hs) → IsRisen ls hs
rest_risen l u ls hs risen k h = risen (suc k) (omega arith)

one_value : (l u : ℤ) → l ≤ℤ u → 1 ≤ unsigned_abs ((u -ℤ l) +ℤ pos 1)
one_value l u h = omega (arith, ints)

points_between-positive : (ls hs : List ℤ) → IsRisen ls hs → 1 ≤ points_between ls hs
points_between-positive [] hs risen = omega arith
points_between-positive (l ∷ ls) [] risen = omega arith
points_between-positive (l ∷ ls) (u ∷ hs) risen =
    omega (arith, one_value l u (risen 0 (omega arith)), points_between-positive ls hs (rest_risen l u ls hs risen), mul-le-mul_right (points_between ls hs) (one_value l u (risen 0 (omega arith))))

-- a box has a point
pub points-positive : (box : Range) → IsOrdered box → 1 ≤ points box
points-positive box ordered = points_between-positive box.low box.high ordered.rising

-- so each half of a cut has fewer points than the box
pub points-left : (box : Range) (j : ℕ) (t : ℤ) → IsOrdered box → IsCut box j t → points (left_half box j t) < points box
points-left box j t ordered cut =
    omega (arith, points-halves box j t ordered cut, points-positive (right_half box j t) (IsOrdered-right box j t ordered cut))

pub points-right : (box : Range) (j : ℕ) (t : ℤ) → IsOrdered box → IsCut box j t → points (right_half box j t) < points box
points-right box j t ordered cut =
    omega (arith, points-halves box j t ordered cut, points-positive (left_half box j t) (IsOrdered-left box j t ordered cut))

-- ---- a box of one point
one_factor : (a b : ℕ) → 1 ≤ a → 1 ≤ b → a * b ≡ 1 → (a ≡ 1) × (b ≡ 1)
one_factor a b h k e =
    (omega (arith, mul-le-mul_left a k), omega (arith, mul-le-mul_right b h))

one_between : (ls hs : List ℤ) → length ls ≡ length hs → IsRisen ls hs → points_between ls hs ≡ 1 → ls ≡ hs
one_between [] [] same risen one = refl
one_between [] (u ∷ hs) same risen one = absurd (omega arith)
one_between (l ∷ ls) [] same risen one = absurd (omega arith)
one_between (l ∷ ls) (u ∷ hs) same risen one =
    let both : (unsigned_abs ((u -ℤ l) +ℤ pos 1) ≡ 1) × (points_between ls hs ≡ 1) =
    one_factor (unsigned_abs ((u -ℤ l) +ℤ pos 1)) (points_between ls hs) (one_value l u (risen 0 (omega arith))) (points_between-positive ls hs (rest_risen l u ls hs risen)) one
    in
    let here : l ≤ℤ u = risen 0 (omega arith) in
    let first : l ≡ u = omega (arith, ints, both.0) in
    ap (λ v. v ∷ ls) first ∙ ap (λ vs. u ∷ vs) (one_between ls hs (omega arith) (rest_risen l u ls hs risen) both.1)

-- its least values are its greatest
pub one_point : (box : Range) → IsOrdered box → points box ≡ 1 → box.low ≡ box.high
one_point box ordered one = one_between box.low box.high ordered.same_length ordered.rising one

points_between-same : (ls : List ℤ) → points_between ls ls ≡ 1
points_between-same [] = refl
points_between-same (l ∷ ls) =
    let one : unsigned_abs ((l -ℤ l) +ℤ pos 1) ≡ 1 = omega (arith, ints) in
    omega (arith, ap (λ n. n * points_between ls ls) one, points_between-same ls)

pub points-same : (box : Range) → box.low ≡ box.high → points box ≡ 1
points-same box e = ap (points_between box.low) (sym e) ∙ points_between-same box.low

-- and they are its point
pub IsWithin-one : (box : Range) (x : List ℤ) → box.low ≡ box.high → IsWithin box x → x ≡ box.low
IsWithin-one box x e inside =
    ext_get_or (pos 0) x box.low inside.same_length
    (λ k h.
    let above : at box.low k ≤ℤ at x k = inside.above k h in
    let below : at x k ≤ℤ at box.high k = inside.below k h in
    omega (arith, ints, ap (λ vs. at vs k) e))

pub IsWithin-low : (box : Range) → IsOrdered box → IsWithin box box.low
IsWithin-low box ordered = record {
  same_length = refl;
  above = λ k h. omega (arith, ints);
  below = ordered.rising;
}
