-- A point's values and their ranges.
use Rattle.std.specs.Prelude.{ℕ, List, ℤ, ◌≤ℤ◌}
use Rattle.opt_sums.specs.Sums.{at}
use Rattle.opt_system.specs.Ranges.{Range}

-- the value of quantity j lies in its range
pub record IsInside (box : Range) (x : List ℤ) (j : ℕ) : Type 0 where
  pub above : at box.low j ≤ℤ at x j
  pub below : at x j ≤ℤ at box.high j
