-- Cuts of a range at one quantity, and the two halves that a cut leaves.
use Rattle.std.specs.Prelude.{ℕ, ◌<◌, length, slice_set, nat_lt, Bool, ◌&&◌, ℤ, pos, ◌+ℤ◌, ◌≤ℤ◌, ◌<ℤ◌, int_le, int_lt}
use Rattle.opt_sums.specs.Sums.{at}
use Rattle.opt_system.specs.Ranges.{Range}

-- quantity j may be cut at t: both halves keep a value
pub record IsCut (box : Range) (j : ℕ) (t : ℤ) : Type 0 where
  pub quantity : j < length box.low
  pub from_low : at box.low j ≤ℤ t
  pub below_high : t <ℤ at box.high j

-- whether quantity j may be cut at t
abbrev pub is_cut : Range → ℕ → ℤ → Bool
is_cut box j t = nat_lt j (length box.low) && (int_le (at box.low j) t && int_lt t (at box.high j))

-- the half in which quantity j is at most t
abbrev pub left_half : Range → ℕ → ℤ → Range
left_half box j t = record { low = box.low; high = slice_set box.high j t }

-- the half in which quantity j is at least t + 1
abbrev pub right_half : Range → ℕ → ℤ → Range
right_half box j t = record { low = slice_set box.low j (t +ℤ pos 1); high = box.high }
