-- The rows that a plan, or a point of a system, breaks.
use Rattle.std.specs.Prelude.{ℕ, Bool, not, List, [], ◌∷◌, ℤ, pos, ◌-ℤ◌, int_le, unsigned_abs}
use Rattle.std.specs.Ordering.{int_eq}
use Rattle.opt_model.specs.Plans.{Plan, sum_of}
use Rattle.opt_model.specs.Quantities.{over, list_if}
use Rattle.opt_model.specs.Rows.{Relation, at_least, equal, Row, rows}
use Rattle.opt_model.specs.Tables.{Tables}
use Rattle.opt_sums.specs.Entries.{dot}
use Rattle.opt_system.specs.Broken.{meets_row}
use Rattle.opt_system.specs.Systems.{System}
use Rattle.opt_system.specs.declared.rows.Row as system_row

-- how far a left side lies from a right one
abbrev pub distance : ℤ → ℤ → ℤ
distance left right = pos (unsigned_abs (left -ℤ right))

-- a left side stands to a right one as a row says
abbrev pub stands : Relation → ℤ → ℤ → Bool
stands at_least left right = int_le right left
stands equal left right = int_eq left right

-- a plan meets a row
abbrev pub meets : Plan → Row → Bool
meets plan r = stands r.relation (sum_of r.left plan) r.right

-- the number of a row that a plan breaks, with the distance; nothing of a row that it meets
abbrev pub breach_of : Plan → ℕ → Row → List (ℕ × ℤ)
breach_of plan number r = list_if (not (meets plan r)) ((number, distance (sum_of r.left plan) r.right) ∷ [])

-- the rows of a model that a plan breaks, by number, each with its distance
abbrev pub breaches_of : Tables → Plan → List (ℕ × ℤ)
breaches_of t plan = over (rows t) (breach_of plan)

-- the same of a row of a system and a point
abbrev pub breach_at : List ℤ → ℕ → system_row.Row → List (ℕ × ℤ)
breach_at x number r = list_if (not (meets_row r x)) ((number, distance (dot r.terms x) r.right_hand_side) ∷ [])

-- the rows of a system that a point breaks, by number, each with its distance
abbrev pub broken_by : System → List ℤ → List (ℕ × ℤ)
broken_by p x = over p.rows (breach_at x)
