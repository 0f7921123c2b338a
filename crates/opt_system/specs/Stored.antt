-- A system as it is kept.
use Rattle.std.specs.Prelude.{ℕ, List, length, ℤ}
use Rattle.opt_system.specs.Columns.{HoldColumns}
use Rattle.opt_system.specs.Systems.{System, IsLimited}

-- the system is within its limits, and these terms with these starts are its columns
pub record IsStored (p : System) (terms : List (ℕ × ℤ)) (starts : List ℕ) : Type 0 where
  pub limited : IsLimited p
  pub by_column : HoldColumns terms starts (length p.cost) p.rows
