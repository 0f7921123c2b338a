-- The room in which a lying guide draws: about twice what is right.
use Rattle.std.specs.Prelude.{◌≡◌, ℕ, ◌*◌, ◌<◌, ◌≤◌, List, All, length, ℤ, pos, ◌*ℤ◌, ◌≤ℤ◌, unsigned_abs}
use Rattle.opt_sums.specs.Sums.{at}
use Rattle.opt_system.specs.Systems.{System}
use Rattle.opt_bound.specs.Multipliers.{Multipliers}

-- multipliers of at most 16 in size that may name rows up to twice those of the system
pub record AreWildMultipliers (s : System) (m : Multipliers) : Type 0 where
  pub rows : All (λ e. e.0 < 2 * length s.rows) m.entries
  pub sizes : All (λ e. unsigned_abs e.1 ≤ 16) m.entries

-- one value for each quantity, from 0 to twice its greatest value
pub record IsWildPoint (s : System) (x : List ℤ) : Type 0 where
  pub each_quantity : length x ≡ length s.root.high
  pub from_zero : (j : ℕ) → j < length x → pos 0 ≤ℤ at x j
  pub at_most_twice : (j : ℕ) → j < length x → at x j ≤ℤ (pos 2 *ℤ at s.root.high j)

-- a quantity and a value, each at most about twice what there is
pub record IsWildCut (s : System) (j : ℕ) (t : ℤ) : Type 0 where
  pub quantity : j ≤ 2 * length s.cost
  pub from_zero : pos 0 ≤ℤ t
  pub at_most_twice : t ≤ℤ (pos 2 *ℤ at s.root.high j)
