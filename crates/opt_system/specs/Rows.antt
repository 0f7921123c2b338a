-- Rows: what is even about their terms, when a point meets one, and their terms by column.
use Rattle.std.specs.Prelude.{◌≡◌, ℕ, ◌+◌, ◌==◌, List, [], ◌∷◌, ◌++◌, map, filter, ℤ, ◌≤ℤ◌}
use Rattle.opt_sums.specs.Entries.{dot, IsRising, HasNoZero}
use Rattle.opt_system.specs.declared.rows.RowKind.{RowKind}
use Rattle.opt_system.specs.declared.rows.RowKind.TheVariants.{Ge, Eq}
use Rattle.opt_system.specs.declared.rows.Row.{Row}

-- the terms go by rising quantity, and no coefficient is 0
pub record IsEven (row : Row) : Type 0 where
  pub rising : IsRising row.terms
  pub no_zero : HasNoZero row.terms

-- a left side stands to a right-hand side as the kind says
abbrev pub Stands : RowKind → ℤ → ℤ → Type 0
Stands Ge left right = right ≤ℤ left
Stands Eq left right = left ≡ right

-- the point x meets the row
abbrev pub Holds : Row → List ℤ → Type 0
Holds row x = Stands row.kind (dot row.terms x) row.right_hand_side

-- the terms of row i that name quantity j, by the row's number
abbrev pub terms_at : ℕ → List (ℕ × ℤ) → ℕ → List (ℕ × ℤ)
terms_at i terms j = map (λ e. (i, e.1)) (filter (λ e. e.0 == j) terms)

-- the terms of quantity j, by rising row, in rows that are numbered from i on
abbrev pub column_from : ℕ → List Row → ℕ → List (ℕ × ℤ)
column_from i [] j = []
column_from i (row ∷ rows) j = terms_at i row.terms j ++ column_from (i + 1) rows j

-- the terms of quantity j, by rising row
abbrev pub column_of : List Row → ℕ → List (ℕ × ℤ)
column_of rows j = column_from 0 rows j
