-- The variables of the simplex: the quantities, then the sums of the rows, each with its range; the objective is last.
use Rattle.std.specs.Prelude.{ℕ, List, ◌++◌, map, length, Bool, true, false, not, ℤ, Option, Some, None, slice_index_or}
use Rattle.std.specs.Ordering.{int_eq}
use Rattle.opt_sums.specs.Sums.{at}
use Rattle.opt_system.specs.declared.rows.RowKind.{RowKind}
use Rattle.opt_system.specs.declared.rows.RowKind.TheVariants.{Ge, Eq}
use Rattle.opt_system.specs.Ranges.{Range}
use Rattle.opt_system.specs.Systems.{System}

-- how many of the variables are quantities, and the least and the greatest value of each variable but the objective,
-- where it has a greatest one
pub record Variables : Type 0 where
  pub quantities : ℕ
  pub low : List ℤ
  pub high : List (Option ℤ)

-- the greatest value of a row's sum
abbrev pub row_high : RowKind → ℤ → Option ℤ
row_high Ge right = None
row_high Eq right = Some right

-- variable j is quantity j within the box, and behind the quantities variable i is the sum of row i
abbrev pub variables_of : System → Range → Variables
variables_of p box =
    record {
      quantities = length p.cost;
      low = box.low ++ map (λ row. row.right_hand_side) p.rows;
      high = map Some box.high ++ map (λ row. row_high row.kind row.right_hand_side) p.rows;
    }

abbrev pub low_of : Variables → ℕ → ℤ
low_of v k = at v.low k

abbrev pub high_of : Variables → ℕ → Option ℤ
high_of v k = slice_index_or v.high k None

-- whether a variable outside the basis rests at its high
abbrev pub rests_high : List Bool → ℕ → Bool
rests_high at_high k = slice_index_or at_high k false

-- the high where it is wanted and there is one, else the low
abbrev pub end_of_range : Bool → ℤ → Option ℤ → ℤ
end_of_range true low (Some high) = high
end_of_range true low None = low
end_of_range false low high = low

-- the value at which a variable outside the basis rests
abbrev pub resting : Variables → List Bool → ℕ → ℤ
resting v at_high k = end_of_range (rests_high at_high k) (low_of v k) (high_of v k)

-- the low and the high differ
abbrev pub is_free : ℤ → Option ℤ → Bool
is_free low None = true
is_free low (Some high) = not (int_eq low high)
