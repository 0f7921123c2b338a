-- What the guide that asks the simplex answers on a box.
use Rattle.std.specs.Prelude.{◌≡◌, ℕ, List, [], Bool, not, ℤ, pos, ◌+ℤ◌, if◌then◌else◌, Option, Some, None}
use Rattle.std.specs.List.{position}
use Rattle.std.specs.Ordering.{int_eq}
use Rattle.std.specs.Int.{int_div_euclid, int_rem_euclid}
use Rattle.opt_system.specs.Ranges.{Range, IsOrdered, LiesIn}
use Rattle.opt_system.specs.Systems.{System, IsLimited}
use Rattle.opt_bound.specs.Multipliers.{Multipliers}
use Rattle.opt_bound.specs.Clip.{IsClip}
use Rattle.opt_guide.specs.Relations.{OfMultipliers, OfCandidates, OfCuts}
use Rattle.opt_simplex.specs.declared.limits.TheConstants.{PIVOT_LIMIT}
use Rattle.opt_simplex.specs.declared.end.LpEnd.{LpEnd}
use Rattle.opt_simplex.specs.declared.end.LpEnd.TheVariants.{Optimal, Empty, Stopped}
use Rattle.opt_simplex.specs.Rule.{end_of}
use Rattle.opt_simplex.specs.Soundness.{IsSound, fraction_at}

-- ---- what an end says
-- the multipliers of the end
abbrev pub multipliers_of : LpEnd → Multipliers
multipliers_of (Optimal point m done) = m
multipliers_of (Empty m done) = m
multipliers_of (Stopped why done m) = m

-- the values of the quantities at the end; only an optimal one has them
abbrev pub fractions_of : LpEnd → List (ℤ × ℤ)
fractions_of (Optimal point m done) = point
fractions_of (Empty m done) = []
fractions_of (Stopped why done m) = []

-- the fraction, with a denominator of at least 1, is not a whole number
abbrev pub is_fractional : ℤ × ℤ → Bool
is_fractional f = not (int_eq (int_rem_euclid f.0 f.1) (pos 0))

-- the greatest whole number that is at most the fraction
abbrev pub floor_of : ℤ × ℤ → ℤ
floor_of f = int_div_euclid f.0 f.1

-- the least whole number that is at least the fraction
abbrev pub ceiling_of : ℤ × ℤ → ℤ
ceiling_of f = if is_fractional f then floor_of f +ℤ pos 1 else floor_of f

-- the first quantity whose value is not whole
abbrev pub first_fractional : List (ℤ × ℤ) → Option ℕ
first_fractional point = position is_fractional point

-- the cut of this quantity at the floor of its value; where there is none, quantity 0 at 0
abbrev pub cut_at : List (ℤ × ℤ) → Option ℕ → ℕ × ℤ
cut_at point (Some j) = (j, floor_of (fraction_at point j))
cut_at point None = (0, pos 0)

-- the first quantity whose value is not whole, cut at its floor
abbrev pub first_cut : List (ℤ × ℤ) → ℕ × ℤ
first_cut point = cut_at point (first_fractional point)

-- ---- what the guide may answer
-- the end on the box with the guide's limit of pivots
unfoldable pub guide_end : System → Range → LpEnd
guide_end s box = end_of s box PIVOT_LIMIT

-- the clip of the end's multipliers
abbrev pub IsClippedEnd : OfMultipliers
IsClippedEnd s box m = IsClip (multipliers_of (guide_end s box)).q (multipliers_of (guide_end s box)).entries m

-- no candidate
abbrev pub IsNoCandidate : OfCandidates
IsNoCandidate s box x = x ≡ None

-- the first quantity whose value at the end is not whole, cut at its floor
abbrev pub IsFirstCut : OfCuts
IsFirstCut s box j t = (j, t) ≡ first_cut (fractions_of (guide_end s box))

-- ---- what the guide keeps
-- a system with a box of it
pub record Subject : Type 0 where
  pub system : System
  pub range : Range

-- the end of the system on the box
abbrev pub end_on : Subject → LpEnd
end_on subject = guide_end subject.system subject.range

-- the end is that of the system on the box, and true of it
pub record IsEndOn (s : System) (box : Range) (end : LpEnd) : Type 0 where
  pub limited : IsLimited s
  pub ordered : IsOrdered box
  pub within : LiesIn s.root box
  pub reached : end ≡ guide_end s box
  pub sound : IsSound s box end
