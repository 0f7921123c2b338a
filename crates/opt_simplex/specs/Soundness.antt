-- What the end of the simplex says of the box, without the way that led to it.
use Rattle.std.specs.Prelude.{◌≡◌, ℕ, ◌<◌, List, All, length, slice_index_or, ℤ, pos, ◌*ℤ◌, ◌≤ℤ◌, ◌<ℤ◌}
use Rattle.opt_sums.specs.Sums.{at}
use Rattle.opt_sums.specs.Entries.{dot}
use Rattle.opt_system.specs.Ranges.{Range}
use Rattle.opt_system.specs.Rows.{Stands}
use Rattle.opt_system.specs.Systems.{System, value}
use Rattle.opt_bound.specs.Multipliers.{Multipliers, IsAdmissible}
use Rattle.opt_bound.specs.Bound.{bound_of}
use Rattle.opt_simplex.specs.declared.end.LpEnd.{LpEnd}
use Rattle.opt_simplex.specs.declared.end.LpEnd.TheVariants.{Optimal, Empty, Stopped}

-- the fraction at j, as numerator and denominator, or 0 past the end
abbrev pub fraction_at : List (ℤ × ℤ) → ℕ → ℤ × ℤ
fraction_at point j = slice_index_or point j (pos 0, pos 1)

-- the fractions times the scale, which is above 0, are the whole numbers x
pub record AreScaled (point : List (ℤ × ℤ)) (scale : ℤ) (x : List ℤ) : Type 0 where
  pub scale_positive : pos 1 ≤ℤ scale
  pub same_length : length x ≡ length point
  pub equal : (j : ℕ) → j < length point → (at x j *ℤ (fraction_at point j).1) ≡ (scale *ℤ (fraction_at point j).0)

-- x is scale times a point that lies in the box and meets each row
pub record MeetsScaled (p : System) (box : Range) (scale : ℤ) (x : List ℤ) : Type 0 where
  pub same_length : length x ≡ length p.cost
  pub above : (j : ℕ) → j < length x → (scale *ℤ at box.low j) ≤ℤ at x j
  pub below : (j : ℕ) → j < length x → at x j ≤ℤ (scale *ℤ at box.high j)
  pub rows_hold : All (λ row. Stands row.kind (dot row.terms x) (scale *ℤ row.right_hand_side)) p.rows

-- the point, brought to a common denominator, lies in the box and meets each row; q times what it costs is the bound
-- of the multipliers
pub record IsOptimal (p : System) (box : Range) (point : List (ℤ × ℤ)) (m : Multipliers) : Type 0 where
  pub scale : ℤ
  pub x : List ℤ
  pub scaled : AreScaled point scale x
  pub meets : MeetsScaled p box scale x
  pub reached : (m.q *ℤ value p x) ≡ (scale *ℤ bound_of p box m)

-- the multipliers are admissible, and the objective is taken at least once
pub record AreDual (p : System) (m : Multipliers) : Type 0 where
  pub admissible : IsAdmissible p m
  pub q_positive : pos 1 ≤ℤ m.q

-- the multipliers are admissible, without the objective, and their bound is above 0: no point of the box meets the rows
pub record ShowsEmpty (p : System) (box : Range) (m : Multipliers) : Type 0 where
  pub admissible : IsAdmissible p m
  pub no_objective : m.q ≡ pos 0
  pub bound_positive : pos 0 <ℤ bound_of p box m

-- what the end says is true of the box
abbrev pub IsSound : System → Range → LpEnd → Type 0
IsSound p box (Optimal point m done) = AreDual p m × IsOptimal p box point m
IsSound p box (Empty m done) = ShowsEmpty p box m
IsSound p box (Stopped why done m) = AreDual p m
