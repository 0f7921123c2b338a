-- The system of a model: its rows over the numbers of its quantities, the ranges of the quantities, and the costs of a goal.
use Rattle.std.specs.Prelude.{◌≤◌, List, [], ◌∷◌, ◌++◌, map, length, All, sum_by, Option, Some, None, ℤ, neg_ℤ, unsigned_abs, nat_lt, if◌then◌else◌, Result, Ok, Err}
use Rattle.opt_base.specs.declared.limits.TheConstants.{ROW_LIMIT, ROWS_COLUMN}
use Rattle.opt_base.specs.declared.refusal.Refusal.{Refusal}
use Rattle.opt_base.specs.Refusals.{too_many}
use Rattle.opt_model.specs.Tables.{Tables}
use Rattle.opt_model.specs.Quantities.{quantities, low, high}
use Rattle.opt_model.specs.Rows.{Relation, at_least, equal, Row, rows, negation, lack_terms, coefficient, coefficients_by_number}
use Rattle.opt_model.specs.Plans.{goal_terms}
use Rattle.opt_model.specs.declared.records.Goal.{Goal}
use Rattle.opt_model.specs.declared.quantity.Quantity.{Quantity}
use Rattle.opt_system.specs.declared.rows.Row as system_row
use Rattle.opt_system.specs.declared.rows.RowKind.{RowKind}
use Rattle.opt_system.specs.declared.rows.RowKind.TheVariants.{Ge, Eq}
use Rattle.opt_system.specs.Ranges.{Range}
use Rattle.opt_system.specs.declared.limits.TheConstants.{RIGHT_HAND_SIDE_LIMIT}
use Rattle.opt_system.specs.Systems.{System, IsSmallTerm, problem_of}

-- a row of a system
abbrev pub SystemRow : Type 0
SystemRow = system_row.Row

-- how the sum of a system's row stands to its right-hand side
abbrev pub kind_of : Relation → RowKind
kind_of at_least = Ge
kind_of equal = Eq

-- a row over the numbers of these quantities
abbrev pub row_over : List Quantity → Row → SystemRow
row_over qs r = record { kind = kind_of r.relation; right_hand_side = r.right; terms = coefficients_by_number qs r.left }

-- where a cap is given, the row that the weighted shortfall is at most the cap
abbrev pub cap_rows : Tables → Option ℤ → List SystemRow
cap_rows t None = []
cap_rows t (Some cap) =
    record { kind = Ge; right_hand_side = neg_ℤ cap; terms = coefficients_by_number (quantities t) (negation (lack_terms t)) } ∷ []

-- the rows of a model, in order, and the row of the cap
abbrev pub system_rows : Tables → Option ℤ → List SystemRow
system_rows t cap = map (row_over (quantities t)) (rows t) ++ cap_rows t cap

-- the ranges of a model's quantities, by number
abbrev pub root_of : Tables → Range
root_of t = record { low = map (low t) (quantities t); high = map (high t) (quantities t) }

-- what a unit of each quantity adds to the goal, by number
abbrev pub costs_of : Tables → Goal → List ℤ
costs_of t goal = map (coefficient (goal_terms t goal)) (quantities t)

-- the system of a model
abbrev pub system_of : Tables → Goal → Option ℤ → System
system_of t goal cap = record { rows = system_rows t cap; root = root_of t; cost = costs_of t goal }

-- the system of a model, or the refusal of too many rows, then of too many terms
abbrev pub model_system : Tables → Goal → Option ℤ → Result System Refusal
model_system t goal cap = problem_of (system_rows t cap) (root_of t) (costs_of t goal)

-- the rows of the system of a model, or the refusal of too many of them
abbrev pub rows_or_too_many : Tables → Option ℤ → Result (List SystemRow) Refusal
rows_or_too_many t cap =
    if nat_lt ROW_LIMIT (length (system_rows t cap)) then Err (too_many ROWS_COLUMN (length (system_rows t cap))) else Ok (system_rows t cap)

-- the terms of these rows name quantities with these greatest values and are small, and so are the right-hand sides together
pub record AreSmallRows (high : List ℤ) (rows : List SystemRow) : Type 0 where
  pub terms : All (λ row. All (IsSmallTerm high) row.terms) rows
  pub rights : sum_by (λ row. unsigned_abs row.right_hand_side) rows ≤ RIGHT_HAND_SIDE_LIMIT
