-- Fields one after the other, and the records that they make.
use Rattle.std.specs.Prelude.{◌≡◌, ◌≤◌, ◌*◌, ℕ, zero, suc, List, [], ◌∷◌, length, take, drop}

-- as many records as count says, each of this many of the fields
abbrev pub records_of : ℕ → ℕ → List (List ℕ) → List (List (List ℕ))
records_of width zero fields = []
records_of width (suc count) fields = take width fields ∷ records_of width count (drop width fields)

-- these are the fields of so many records of a table, which has at most 255 columns
pub record AreCells (width count : ℕ) (fields : List (List ℕ)) : Type 0 where
  pub width_is : width ≤ 255
  pub all : length fields ≡ count * width
