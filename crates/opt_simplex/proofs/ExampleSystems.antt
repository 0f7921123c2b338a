-- Short words for the systems of the worked examples.
use Rattle.std.proofs.Common.{ℕ, List, ℤ, pos, neg_ℤ}
use Rattle.opt_system.specs.declared.rows.RowKind.TheVariants.{Ge, Eq}
use Rattle.opt_system.specs.declared.rows.Row.{Row}
use Rattle.opt_system.specs.Systems.{System}
use Rattle.opt_bound.specs.Multipliers.{Multipliers}

-- the number -n
abbrev pub minus : ℕ → ℤ
minus n = neg_ℤ (pos n)

-- the sum of these terms is at least so much
abbrev pub least : ℤ → List (ℕ × ℤ) → Row
least right terms = record { kind = Ge; right_hand_side = right; terms = terms }

-- the sum of these terms is so much
abbrev pub equal : ℤ → List (ℕ × ℤ) → Row
equal right terms = record { kind = Eq; right_hand_side = right; terms = terms }

-- the system of these lows, highs, costs and rows
abbrev pub system : List ℤ → List ℤ → List ℤ → List Row → System
system low high cost rows = record { rows = rows; root = record { low = low; high = high }; cost = cost }

-- the multipliers of the objective and of rows
abbrev pub multipliers : ℤ → List (ℕ × ℤ) → Multipliers
multipliers q entries = record { q = q; entries = entries }
