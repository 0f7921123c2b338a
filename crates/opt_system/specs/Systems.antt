-- A system of rows over whole quantities: its limits, which points meet it, and what a point costs.
use Rattle.std.specs.Prelude.{◌≡◌, ℕ, ◌*◌, ◌<◌, ◌≤◌, max, List, [], length, All, sum_by, slice_index_or, ℤ, pos, ◌*ℤ◌, ◌≤ℤ◌, unsigned_abs, nat_lt, if◌then◌else◌, Result, Ok, Err}
use Rattle.opt_sums.specs.Sums.{at, sum_to}
use Rattle.opt_base.specs.declared.refusal.Refusal.{Refusal}
use Rattle.opt_base.specs.declared.limits.TheConstants.{QUANTITY_LIMIT, ROW_LIMIT, TERM_LIMIT, ROWS_COLUMN, TERMS_COLUMN}
use Rattle.opt_base.specs.Refusals.{too_many}
use Rattle.opt_system.specs.declared.limits.TheConstants.{SIZE_LIMIT, RIGHT_HAND_SIDE_LIMIT}
use Rattle.opt_system.specs.declared.rows.RowKind.TheVariants.{Ge}
use Rattle.opt_system.specs.declared.rows.Row.{Row}
use Rattle.opt_system.specs.Ranges.{Range, IsOrdered, IsWithin}
use Rattle.opt_system.specs.Rows.{IsEven, Holds}

-- rows, the range of each quantity, and what one unit of each quantity costs
pub record System : Type 0 where
  pub rows : List Row
  pub root : Range
  pub cost : List ℤ

-- row i, or a row that every point meets where there is none
abbrev pub row_at : List Row → ℕ → Row
row_at rows i = slice_index_or rows i (record { kind = Ge; right_hand_side = pos 0; terms = [] })

-- how many terms these rows have together
abbrev pub term_count : List Row → ℕ
term_count rows = sum_by (λ row. length row.terms) rows

-- the coefficient or cost times the greatest size of its quantity, or 1, is below the limit
abbrev pub IsSmallBy : ℤ → ℤ → Type 0
IsSmallBy number high = unsigned_abs number * max (unsigned_abs high) 1 < SIZE_LIMIT

-- the term names a quantity, and its coefficient is small for it
abbrev pub IsSmallTerm : List ℤ → ℕ × ℤ → Type 0
IsSmallTerm high e = (e.0 < length high) × IsSmallBy e.1 (at high e.0)

-- the term of a column names a row, and its coefficient is small for quantity j
abbrev pub IsSmallColumnTerm : System → ℕ → ℕ × ℤ → Type 0
IsSmallColumnTerm p j e = (e.0 < length p.rows) × IsSmallBy e.1 (at p.root.high j)

-- a cost is from 0 on and small for the greatest value, which is below the limit
pub record IsSmallCost (cost high : ℤ) : Type 0 where
  pub from_zero : pos 0 ≤ℤ cost
  pub small : IsSmallBy cost high
  pub below : unsigned_abs high < SIZE_LIMIT

-- costs are from 0 on and small, and greatest values are below the limit
pub record AreSmallCosts (cost high : List ℤ) : Type 0 where
  pub from_zero : (j : ℕ) → j < length cost → pos 0 ≤ℤ at cost j
  pub small : (j : ℕ) → j < length cost → IsSmallBy (at cost j) (at high j)
  pub highs : (j : ℕ) → j < length cost → unsigned_abs (at high j) < SIZE_LIMIT

-- the numbers are so small that no sum over them overflows: there is a cost for each of not too many quantities, the
-- costs and terms are small, and so are the sizes of the right-hand sides together
pub record IsSmall (rows : List Row) (root : Range) (cost : List ℤ) : Type 0 where
  pub cost_each : length cost ≡ length root.low
  pub few_quantities : length root.high ≤ QUANTITY_LIMIT
  pub costs : AreSmallCosts cost root.high
  pub terms : All (λ row. All (IsSmallTerm root.high) row.terms) rows
  pub rights : sum_by (λ row. unsigned_abs row.right_hand_side) rows ≤ RIGHT_HAND_SIDE_LIMIT

-- what every system keeps: its rows and root are even, its numbers are small, and there are few rows and terms
pub record IsLimited (p : System) : Type 0 where
  pub even : All IsEven p.rows
  pub ordered : IsOrdered p.root
  pub small : IsSmall p.rows p.root p.cost
  pub few_rows : length p.rows ≤ ROW_LIMIT
  pub few_terms : term_count p.rows ≤ TERM_LIMIT

-- the system of these rows, or the refusal of too many rows, then of too many terms
abbrev pub problem_of : List Row → Range → List ℤ → Result System Refusal
problem_of rows root cost =
    if nat_lt ROW_LIMIT (length rows)
    then Err (too_many ROWS_COLUMN (length rows))
    else if nat_lt TERM_LIMIT (term_count rows)
    then Err (too_many TERMS_COLUMN (term_count rows))
    else Ok (record { rows = rows; root = root; cost = cost })

-- the point lies in the root and meets each row
pub record Meets (p : System) (x : List ℤ) : Type 0 where
  pub in_range : IsWithin p.root x
  pub rows_hold : All (λ row. Holds row x) p.rows

-- what the point costs
abbrev pub value : System → List ℤ → ℤ
value p x = sum_to (length p.cost) (λ j. at p.cost j *ℤ at x j)

-- i is the number of the first of these rows that the point does not meet
pub record IsFirstBroken (rows : List Row) (x : List ℤ) (i : ℕ) : Type 0 where
  pub in_list : i < length rows
  pub broken : ¬ Holds (row_at rows i) x
  pub before : (k : ℕ) → k < i → Holds (row_at rows k) x
