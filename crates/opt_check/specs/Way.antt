-- The way from the root's box down to the box at hand, and the boxes that wait for a node of the tree.
use Rattle.std.specs.Prelude.{ℕ, ◌<◌, Bool, true, false, List, [], ◌∷◌, length, slice_set, ℤ, pos, ◌≤ℤ◌, ◌<ℤ◌}
use Rattle.opt_sums.specs.Sums.{at}
use Rattle.opt_system.specs.Ranges.{Range}
use Rattle.opt_system.specs.Cuts.{IsCut, left_half, right_half}
use Rattle.opt_check.specs.declared.way.Turn.{Turn}
use Rattle.opt_check.specs.declared.way.Turn.TheVariants.{Left, Right}

-- the box that was split, from the half of it that the turn went to
abbrev pub whole : Range → Turn → Range
whole half (Left cut high) = record { low = half.low; high = slice_set half.high cut.quantity high }
whole half (Right j low) = record { low = slice_set half.low j low; high = half.high }

-- the boxes that wait after the one at hand, which was reached by these turns, the last first
abbrev pub waiting_after : Range → List Turn → List Range
waiting_after box [] = []
waiting_after box (Left cut high ∷ turns) =
    right_half (whole box (Left cut high)) cut.quantity cut.at ∷ waiting_after (whole box (Left cut high)) turns
waiting_after box (Right j low ∷ turns) = waiting_after (whole box (Right j low)) turns

-- the boxes that wait for a node: the one at hand and those after it, or none where the way is over
abbrev pub waiting : Bool → Range → List Turn → List Range
waiting true box turns = []
waiting false box turns = box ∷ waiting_after box turns

-- the turn went to this half of a box, in which the other half keeps a value
abbrev pub IsHalf : Range → Turn → Type 0
IsHalf half (Left cut high) =
    (cut.quantity < length half.low) × (at half.low cut.quantity ≤ℤ cut.at) × (cut.at <ℤ high)
IsHalf half (Right j low) = (j < length half.low) × (pos 0 ≤ℤ low) × (low ≤ℤ at half.high j)

-- these turns, the last first, lead to the box
abbrev pub IsWay : Range → List Turn → Type 0
IsWay box [] = Unit {0}
IsWay box (turn ∷ turns) = IsHalf box turn × IsWay (whole box turn) turns

-- the turns lead to the box at hand, unless the way is over
abbrev pub IsWayTo : Bool → Range → List Turn → Type 0
IsWayTo true box turns = Unit {0}
IsWayTo false box turns = IsWay box turns

-- the last turn, where there is one, went to a left half
abbrev pub EndsLeft : List Turn → Type 0
EndsLeft [] = Unit {0}
EndsLeft (Left cut high ∷ turns) = Unit {0}
EndsLeft (Right j low ∷ turns) = ⊥

-- a box waits, and may be cut there
abbrev pub CanSplit : List Range → ℕ → ℤ → Type 0
CanSplit [] j t = ⊥
CanSplit (box ∷ boxes) j t = IsCut box j t

-- the boxes that wait once the first one was split
abbrev pub after_split : ℕ → ℤ → List Range → List Range
after_split j t [] = []
after_split j t (box ∷ boxes) = left_half box j t ∷ right_half box j t ∷ boxes
