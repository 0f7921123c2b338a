-- The terms of rows, kept by column.
use Rattle.std.specs.Prelude.{◌≡◌, ℕ, ◌+◌, ◌<◌, ◌≤◌, ◌++◌, List, [], length, slice_index, slice_index_or, slice_range, ℤ}
use Rattle.opt_system.specs.declared.rows.Row.{Row}
use Rattle.opt_system.specs.Rows.{column_of, terms_at}

-- column j, or none past the last
abbrev pub column_at : List (List (ℕ × ℤ)) → ℕ → List (ℕ × ℤ)
column_at columns j = slice_index_or columns j []

-- there is a column for each quantity, with that quantity's terms by rising row
pub record AreColumns (columns : List (List (ℕ × ℤ))) (quantities : ℕ) (rows : List Row) : Type 0 where
  pub each_quantity : length columns ≡ quantities
  pub same_terms : (j : ℕ) → j < length columns → column_at columns j ≡ column_of rows j

-- each column has got the terms of this row that name its quantity
pub record AddsRow (old new : List (List (ℕ × ℤ))) (row : ℕ) (terms : List (ℕ × ℤ)) : Type 0 where
  pub same_length : length new ≡ length old
  pub added : (j : ℕ) → j < length old → column_at new j ≡ column_at old j ++ terms_at row terms j

-- what stands between start j and the next start
abbrev pub column_between : List (ℕ × ℤ) → List ℕ → ℕ → List (ℕ × ℤ)
column_between terms starts j = slice_range terms (slice_index starts j) (slice_index starts (j + 1))

-- start j and the next one are there, rise, and lie in the list
pub record IsBetween (terms : List (ℕ × ℤ)) (starts : List ℕ) (j : ℕ) : Type 0 where
  pub has_next : j + 1 < length starts
  pub rising : slice_index starts j ≤ slice_index starts (j + 1)
  pub in_list : slice_index starts (j + 1) ≤ length terms

-- these lists stand one after another
pub record AreJoined (terms : List (ℕ × ℤ)) (starts : List ℕ) (lists : List (List (ℕ × ℤ))) : Type 0 where
  pub each_list : length starts ≡ length lists + 1
  pub last : slice_index starts (length lists) ≡ length terms
  pub between : (j : ℕ) → j < length lists → IsBetween terms starts j
  pub same_terms : (j : ℕ) → j < length lists → column_between terms starts j ≡ column_at lists j

-- the columns of the rows, one for each quantity, stand one after another
pub record HoldColumns (terms : List (ℕ × ℤ)) (starts : List ℕ) (quantities : ℕ) (rows : List Row) : Type 0 where
  pub between : (j : ℕ) → j < quantities → IsBetween terms starts j
  pub same_terms : (j : ℕ) → j < quantities → column_between terms starts j ≡ column_of rows j
