-- How the box of a node is found on the way from it up to the root.
use Rattle.std.specs.Prelude.{◌≡◌, ℕ, ◌<◌, List, length, slice_set, ℤ, ◌≤ℤ◌}
use Rattle.std.specs.Int.{int_min, int_max}
use Rattle.opt_sums.specs.Sums.{at}
use Rattle.opt_system.specs.Ranges.{Range}
use Rattle.opt_tree.specs.declared.node.End.{End}
use Rattle.opt_tree.specs.declared.node.End.TheVariants.{Low, High}
use Rattle.opt_tree.specs.declared.node.Link.{Link}

-- the lows or the highs of a box
abbrev pub side : End → Range → List ℤ
side Low box = box.low
side High box = box.high

-- the box with the end that the link says, where that is narrower
abbrev pub with_narrower : End → Range → ℕ → ℤ → Range
with_narrower High box j v = record { low = box.low; high = slice_set box.high j (int_min (at box.high j) v) }
with_narrower Low box j v = record { low = slice_set box.low j (int_max (at box.low j) v); high = box.high }

abbrev pub narrowed : Range → Link → Range
narrowed box k = with_narrower k.end box k.quantity k.value

-- with this end the quantity keeps a value
abbrev pub LeavesSome : End → Range → ℕ → ℤ → Type 0
LeavesSome High box j v = at box.low j ≤ℤ v
LeavesSome Low box j v = v ≤ℤ at box.high j

-- the part of this box in the one over it is the whole box that is looked for, and the box lies in the root's
pub record IsOnWay (root over box whole : Range) : Type 0 where
  pub lows : length box.low ≡ length whole.low
  pub highs : length box.high ≡ length whole.high
  pub low : (j : ℕ) → j < length whole.low → int_max (at box.low j) (at over.low j) ≡ at whole.low j
  pub high : (j : ℕ) → j < length whole.high → int_min (at box.high j) (at over.high j) ≡ at whole.high j
  pub from_low : (j : ℕ) → j < length whole.low → at root.low j ≤ℤ at box.low j
  pub to_high : (j : ℕ) → j < length whole.high → at box.high j ≤ℤ at root.high j
