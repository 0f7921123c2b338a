-- What a search keeps of its guide's answers: which of them it used, and what it put in the place of those that are wrong.
-- The relations say what the guide may answer on a box.
use Rattle.std.specs.Prelude.{◌≡◌, ℕ, ◌<◌, ◌⊎◌, List, All, Option, Some, None, ℤ, pos, ◌+ℤ◌, ◌-ℤ◌, ◌*ℤ◌, ◌≤ℤ◌, ◌<ℤ◌}
use Rattle.std.specs.Int.{int_max}
use Rattle.opt_sums.specs.Sums.{at}
use Rattle.opt_system.specs.Ranges.{Range}
use Rattle.opt_system.specs.Cuts.{IsCut}
use Rattle.opt_system.specs.Rows.{Holds}
use Rattle.opt_system.specs.Systems.{System, Meets, value, IsFirstBroken}
use Rattle.opt_bound.specs.declared.leaf.Leaf.TheVariants.{AtLeast}
use Rattle.opt_bound.specs.Multipliers.{Multipliers, IsAdmissible}
use Rattle.opt_bound.specs.Bound.{unit_multipliers, trivial_multipliers}
use Rattle.opt_tree.specs.Shown.{leaf_at}
use Rattle.opt_guide.specs.Relations.{OfMultipliers, OfCandidates, OfCuts}

-- ---- multipliers
-- the guide may answer multipliers on the box that are not admissible
pub record MayErr (weigh : OfMultipliers) (s : System) (box : Range) : Type 0 where
  pub wrong : Multipliers
  pub answered : weigh s box wrong
  pub not_admissible : ¬ IsAdmissible s wrong

-- admissible multipliers that the guide may answer on the box, or the objective alone in the place of an answer that is not
abbrev pub IsLine : OfMultipliers → System → Range → Multipliers → Type 0
IsLine weigh s box m = (weigh s box m × IsAdmissible s m) ⊎ (MayErr weigh s box × (m ≡ trivial_multipliers))

-- each quantity has just one value in the box
abbrev pub IsOnePoint : Range → Type 0
IsOnePoint box = box.low ≡ box.high

-- a unit of the first row that the point breaks, or the objective alone where it breaks none
abbrev pub IsPointLine : System → List ℤ → Multipliers → Type 0
IsPointLine s x m =
    ((i : ℕ) × IsFirstBroken s.rows x i × (m ≡ unit_multipliers s x i)) ⊎ (All (λ row. Holds row x) s.rows × (m ≡ trivial_multipliers))

-- the multipliers of a leaf: those of the guide, or on a box of one point those that judge this point
abbrev pub IsLeafLine : OfMultipliers → System → Range → Multipliers → Type 0
IsLeafLine weigh s box m = IsLine weigh s box m ⊎ (IsOnePoint box × IsPointLine s box.low m)

-- ---- cuts
-- the guide may answer a cut of the box that is none
pub record MayMiss (cut : OfCuts) (s : System) (box : Range) : Type 0 where
  pub quantity : ℕ
  pub at_value : ℤ
  pub answered : cut s box quantity at_value
  pub no_cut : ¬ IsCut box quantity at_value

-- quantity j is the first that has more than one value in the box, and t is halfway between its ends, rounded down
pub record IsHalving (box : Range) (j : ℕ) (t : ℤ) : Type 0 where
  pub several : at box.low j <ℤ at box.high j
  pub before : (k : ℕ) → k < j → at box.low k ≡ at box.high k
  pub halfway : (pos 2 *ℤ t) ≤ℤ (at box.low j +ℤ at box.high j)
  pub rounded_down : (at box.low j +ℤ at box.high j) <ℤ ((pos 2 *ℤ t) +ℤ pos 2)

-- a cut that the guide may answer on the box, or the halving in the place of an answer that is none
abbrev pub IsCutLine : OfCuts → System → Range → ℕ → ℤ → Type 0
IsCutLine cut s box j t = (cut s box j t) ⊎ (MayMiss cut s box × IsHalving box j t)

-- ---- candidates
-- a best value is known, and it is at most this
abbrev pub IsAtMost : Option ℤ → ℤ → Type 0
IsAtMost None v = ⊥
IsAtMost (Some best) v = best ≤ℤ v

-- where the candidate meets the system, a best value is known that is at most its own
abbrev pub WasWeighed : System → Option ℤ → Option (List ℤ) → Type 0
WasWeighed s best None = Unit {0}
WasWeighed s best (Some x) = Meets s x → IsAtMost best (value s x)

-- a candidate that the guide may answer on the box was weighed
pub record WeighsOne (try : OfCandidates) (s : System) (best : Option ℤ) (box : Range) : Type 0 where
  pub candidate : Option (List ℤ)
  pub answered : try s box candidate
  pub weighed : WasWeighed s best candidate

-- ---- splits
-- where the candidate meets the system, this bound lies below its value by more than the gap
abbrev pub LiesBelow : System → ℤ → Option (List ℤ) → ℤ → Type 0
LiesBelow s gap None bound = Unit {0}
LiesBelow s gap (Some x) bound = Meets s x → bound <ℤ (value s x -ℤ gap)

-- with some line of the box, it was not closed: it is not empty, and the bound lies below what the first candidate allows
pub record WasOpen (weigh : OfMultipliers) (s : System) (gap root_bound : ℤ) (first : Option (List ℤ)) (box : Range) : Type 0 where
  pub line : Multipliers
  pub is_line : IsLine weigh s box line
  pub bound : ℤ
  pub shown : leaf_at s box line ≡ AtLeast bound
  pub below : LiesBelow s gap first (int_max root_bound bound)
