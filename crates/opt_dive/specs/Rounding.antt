-- The rounding search: rations fixed at values rounded up, then one quantity after the other until each value is whole.
use Rattle.std.specs.Prelude.{◌≡◌, ℕ, zero, suc, List, [], ◌∷◌, map, min, length, slice_set, ℤ, int_le, if◌then◌else◌, Option, Some, None}
use Rattle.opt_sums.specs.Sums.{at}
use Rattle.opt_system.specs.Ranges.{Range}
use Rattle.opt_system.specs.Systems.{System}
use Rattle.opt_simplex.specs.declared.end.LpEnd.{LpEnd}
use Rattle.opt_simplex.specs.declared.end.LpEnd.TheVariants.{Optimal, Empty, Stopped}
use Rattle.opt_simplex.specs.Soundness.{fraction_at}
use Rattle.opt_simplex.specs.Guide.{guide_end, fractions_of, first_fractional, floor_of, ceiling_of}

-- ---- boxes with quantities fixed
-- the box with this value alone for quantity j
abbrev pub fix : Range → ℕ → ℤ → Range
fix box j value = record { low = slice_set box.low j value; high = slice_set box.high j value }

-- the number, or the end of the range from low to high that it is past
abbrev pub bring_within : ℤ → ℤ → ℤ → ℤ
bring_within low high value = if int_le value low then low else if int_le high value then high else value

-- the fraction of quantity j rounded up, within its range
abbrev pub round_up : List (ℤ × ℤ) → Range → ℕ → ℤ
round_up point box j = bring_within (at box.low j) (at box.high j) (ceiling_of (fraction_at point j))

-- the box with quantity j fixed at its fraction rounded up
abbrev pub fix_up : List (ℤ × ℤ) → Range → ℕ → Range
fix_up point box j = fix box j (round_up point box j)

-- the box with each of the first n quantities fixed at its fraction rounded up
abbrev pub fix_first : ℕ → List (ℤ × ℤ) → Range → Range
fix_first zero point box = box
fix_first (suc n) point box = fix_up point (fix_first n point box) n

-- the box with the rations fixed so, or all quantities where there are fewer
abbrev pub fix_rations : ℕ → List (ℤ × ℤ) → Range → Range
fix_rations rations point box = fix_first (min rations (length box.low)) point box

-- ---- what follows on a box
-- the values of the quantities at the optimum, where the simplex ends at one
abbrev pub optimum_of : LpEnd → Option (List (ℤ × ℤ))
optimum_of (Optimal point m done) = Some point
optimum_of (Empty m done) = None
optimum_of (Stopped why done m) = None

-- where each value at the optimum is whole, they are the point; where there is no optimum, there is no point
abbrev pub IsLast : LpEnd → Option (List ℤ) → Type 0
IsLast (Optimal point m done) x = (first_fractional point ≡ None) × (x ≡ Some (map floor_of point))
IsLast (Empty m done) x = x ≡ None
IsLast (Stopped why done m) x = x ≡ None

-- the quantities are fixed one after the other, each the first whose value is not whole at the optimum of the box so far,
-- at that value rounded up; x is what the last box gives
abbrev pub LeadsTo : System → List ℕ → Range → Option (List ℤ) → Type 0
LeadsTo s [] box x = IsLast (guide_end s box) x
LeadsTo s (j ∷ js) box x =
    (first_fractional (fractions_of (guide_end s box)) ≡ Some j) × LeadsTo s js (fix_up (fractions_of (guide_end s box)) box j) x

-- quantities fixed so lead from the box to x
pub record IsRoundingOf (s : System) (box : Range) (x : Option (List ℤ)) : Type 0 where
  pub fixed : List ℕ
  pub leads : LeadsTo s fixed box x

-- x is the dive's point, or none, on the box from these fractions with so many rations
abbrev pub IsDiveFrom : System → Range → List (ℤ × ℤ) → ℕ → Option (List ℤ) → Type 0
IsDiveFrom s box point rations x = IsRoundingOf s (fix_rations rations point box) x
