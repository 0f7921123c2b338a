-- What a bound says of a box: that no point of it meets the rows, or the least value that such a point can have.
use Rattle.std.specs.Prelude.{zero, suc, ◌^◌, ℤ, pos, ◌*ℤ◌, ◌≤ℤ◌, List}
use Rattle.std.specs.Int.{div_ceil}
use Rattle.opt_system.specs.Ranges.{Range, IsWithin}
use Rattle.opt_system.specs.Systems.{System, Meets, value}
use Rattle.opt_bound.specs.declared.leaf.Leaf.{Leaf}
use Rattle.opt_bound.specs.declared.leaf.Leaf.TheVariants.{Empty, AtLeast}

-- the leaf of a bound b on q times the value, where q is from 0 on: 0 times no value reaches a bound above 0, the
-- quotient rounded up is the first value that reaches one otherwise, and 0 reaches each other bound
abbrev pub leaf_of : ℤ → ℤ → Leaf
leaf_of (pos (suc b)) (pos zero) = Empty
leaf_of (pos (suc b)) (pos (suc q)) = AtLeast (pos (div_ceil (suc b) (suc q)))
leaf_of b q = AtLeast (pos 0)

-- w is a value from 0 on that q times reaches b
pub record Reaches (b q w : ℤ) : Type 0 where
  pub from_zero : pos 0 ≤ℤ w
  pub reached : b ≤ℤ (q *ℤ w)

-- the leaf is the least value that reaches the bound, and Empty where none does
abbrev pub IsLeastReached : ℤ → ℤ → Leaf → Type 0
IsLeastReached b q Empty = (w : ℤ) → ¬ Reaches b q w
IsLeastReached b q (AtLeast v) = Reaches b q v × ((w : ℤ) → Reaches b q w → v ≤ℤ w)

-- q times the value of each point of the box that meets the rows is at least b
abbrev pub IsLowerBound : System → Range → ℤ → ℤ → Type 0
IsLowerBound p box q b = (x : List ℤ) → Meets p x → IsWithin box x → b ≤ℤ (q *ℤ value p x)

-- the leaf's value, where it has one, is from 0 to 2^126
abbrev pub IsLeafInRange : Leaf → Type 0
IsLeafInRange Empty = Unit {0}
IsLeafInRange (AtLeast v) = (pos 0 ≤ℤ v) × (v ≤ℤ pos (2 ^ 126))

-- the leaf is true of the box: Empty where no point of it meets the rows, else below the value of each that does
abbrev pub IsTrueOf : System → Range → Leaf → Type 0
IsTrueOf p box Empty = (x : List ℤ) → Meets p x → IsWithin box x → ⊥
IsTrueOf p box (AtLeast v) = (x : List ℤ) → Meets p x → IsWithin box x → v ≤ℤ value p x
