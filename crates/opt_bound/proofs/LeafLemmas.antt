-- The first value that reaches a bound, and what it says of a box.
use Rattle.std.proofs.Common.{◌≡◌, ◌⊎◌, inl, inr, ℕ, zero, suc, ◌+◌, ◌*◌, ◌^◌, ◌≤◌, ◌<◌, List, ℤ, pos, negsuc, ◌*ℤ◌, ◌≤ℤ◌, ◌<ℤ◌, unsigned_abs, arith}
use Rattle.std.specs.Int.{div_ceil}
use Rattle.std.proofs.lemmas.Int.{ints}
use Rattle.std.proofs.lemmas.Grind.{div_ceil_times}
use Rattle.std.proofs.Math.Nat.{mul-le-mul_left, mul-le-mul_right}
use Rattle.opt_system.specs.Ranges.{Range, IsWithin}
use Rattle.opt_system.specs.Systems.{System, IsLimited, Meets, value}
use Rattle.opt_system.proofs.LimitLemmas.{value_from_zero}
use Rattle.opt_bound.specs.declared.leaf.Leaf.{Leaf}
use Rattle.opt_bound.specs.declared.leaf.Leaf.TheVariants.{Empty, AtLeast}
use Rattle.opt_bound.specs.Verdict.{leaf_of, Reaches, IsLeastReached, IsLeafInRange, IsTrueOf}

at_most_or_more : (n a : ℕ) → (n ≤ a) ⊎ (a < n)
at_most_or_more n a = grind arith

-- a quotient rounded up is no greater than what is divided
pub div_ceil_le : (a b : ℕ) → 0 < b → div_ceil a b ≤ a
div_ceil_le a b h =
    elim (at_most_or_more (div_ceil a b) a) [
      | inl le ↦ le
      | inr more ↦
          let over : a + 1 ≤ div_ceil a b = omega (arith, more) in
          absurd (omega (arith, (div_ceil_times a b h).1, mul-le-mul_right b over, mul-le-mul_left a h))
    ]

-- the quotient rounded up is the first number that the divisor times reaches what is divided
reached : (a d : ℕ) → 0 < d → a ≤ d * div_ceil a d
reached a d h = omega (arith, (div_ceil_times a d h).0)

first : (a d m : ℕ) → 0 < d → a ≤ d * m → div_ceil a d ≤ m
first a d m h k =
    elim (at_most_or_more (div_ceil a d) m) [
      | inl le ↦ le
      | inr more ↦
          let over : m + 1 ≤ div_ceil a d = omega (arith, more) in
          absurd (omega (arith, (div_ceil_times a d h).1, mul-le-mul_right d over))
    ]

no_more : (a d : ℕ) (w : ℤ) → 0 < d → Reaches (pos a) (pos d) w → pos (div_ceil a d) ≤ℤ w
no_more a d (pos m) h reaches =
    let enough : a ≤ d * m = omega (arith, ints, reaches.reached) in
    omega (arith, ints, first a d m h enough)
no_more a d (negsuc m) h reaches = absurd (omega (arith, ints, reaches.from_zero))

-- the same of whole numbers
pub least_reached : (b q r : ℤ) → pos 0 <ℤ b → pos 0 <ℤ q → r ≡ pos (div_ceil (unsigned_abs b) (unsigned_abs q)) → IsLeastReached b q (AtLeast r)
least_reached (pos a) (pos d) r h k e =
    let from : 0 < d = omega (arith, ints) in
    rw e (
      record { from_zero = omega (arith, ints); reached = omega (arith, ints, reached a d from) },
      λ w reaches. no_more a d w from reaches,
    )
least_reached (pos a) (negsuc d) r h k e = absurd (omega (arith, ints))
least_reached (negsuc a) q r h k e = absurd (omega (arith, ints))

-- a leaf that the bound reaches is true of the box
pub leaf_true : (p : System) (box : Range) (b q : ℤ) (leaf : Leaf) → IsLimited p → IsLeastReached b q leaf → ((x : List ℤ) → Meets p x → IsWithin box x → b ≤ℤ (q *ℤ value p x)) → IsTrueOf p box leaf
leaf_true p box b q Empty limited least law = λ x meets inside.
    least (value p x) (record { from_zero = value_from_zero p x limited meets.in_range; reached = law x meets inside })
leaf_true p box b q (AtLeast v) limited least law = λ x meets inside.
    least.1 (value p x) (record { from_zero = value_from_zero p x limited meets.in_range; reached = law x meets inside })

-- the leaf of a bound below 2^126 has a value from 0 to 2^126
pub leaf_in_range : (b q : ℤ) → unsigned_abs b < 2 ^ 126 → IsLeafInRange (leaf_of b q)
leaf_in_range (pos zero) q h = (omega (arith, ints), omega (arith, ints))
leaf_in_range (pos (suc b)) (pos zero) h = tt
leaf_in_range (pos (suc b)) (pos (suc q)) h =
    (omega (arith, ints), omega (arith, ints, div_ceil_le (suc b) (suc q) (omega arith)))
leaf_in_range (pos (suc b)) (negsuc q) h = (omega (arith, ints), omega (arith, ints))
leaf_in_range (negsuc b) q h = (omega (arith, ints), omega (arith, ints))
