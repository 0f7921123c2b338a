-- Whether a point meets a row, and the first row that it does not meet, as functions that compute.
use Rattle.std.specs.Prelude.{Bool, not, ℕ, List, Option, position, ℤ, int_le}
use Rattle.std.specs.Ordering.{int_eq}
use Rattle.opt_sums.specs.Entries.{dot}
use Rattle.opt_system.specs.declared.rows.RowKind.{RowKind}
use Rattle.opt_system.specs.declared.rows.RowKind.TheVariants.{Ge, Eq}
use Rattle.opt_system.specs.declared.rows.Row.{Row}

-- a left side stands to a right-hand side as the kind says
abbrev pub stands : RowKind → ℤ → ℤ → Bool
stands Ge left right = int_le right left
stands Eq left right = int_eq left right

-- the point x meets the row
abbrev pub meets_row : Row → List ℤ → Bool
meets_row row x = stands row.kind (dot row.terms x) row.right_hand_side

-- the number of the first of these rows that the point does not meet
abbrev pub first_broken_of : List Row → List ℤ → Option ℕ
first_broken_of rows x = position (λ row. not (meets_row row x)) rows
