-- Multipliers as they are kept.
use Rattle.std.specs.Prelude.{◌≡◌, ℕ, List, Option, IfSome, Vec, ℤ}
use Rattle.std.specs.Global.{Global}
use Rattle.opt_sums.specs.Sums.{at}
use Rattle.opt_sums.specs.Entries.{coef}
use Rattle.opt_bound.specs.Multipliers.{Multipliers, IsProper}

-- the list says, for each row, how often it is taken, and past its end none is
abbrev pub IsByRow : List (ℕ × ℤ) → List ℤ → Type 0
IsByRow entries by_row = (i : ℕ) → at by_row i ≡ coef entries i

-- the multipliers are proper, and the list, where there is one, has them by row
pub record IsKept (m : Multipliers) (by_row : Option (Vec ℤ Global)) : Type 0 where
  pub proper : IsProper m
  pub laid_out : IfSome by_row (λ list. IsByRow m.entries list.items)
