-- What the guide that dives answers on a box.
use Rattle.std.specs.Prelude.{◌≡◌, ℕ, List, ℤ, Option, None}
use Rattle.opt_system.specs.Ranges.{Range}
use Rattle.opt_system.specs.Systems.{System}
use Rattle.opt_guide.specs.Relations.{OfCandidates, AllowsSame}
use Rattle.opt_simplex.specs.declared.end.LpEnd.{LpEnd}
use Rattle.opt_simplex.specs.declared.end.LpEnd.TheVariants.{Optimal, Empty, Stopped}
use Rattle.opt_simplex.specs.Guide.{Subject, IsClippedEnd, IsFirstCut, guide_end}
use Rattle.opt_dive.specs.Rounding.{IsDiveFrom}

-- the rations, and the system with the box of the last solve
pub record Diver : Type 0 where
  pub rations : ℕ
  pub last : Option Subject

-- the dive from the optimum; where there is none, there is no candidate
abbrev pub IsDiveAt : ℕ → System → Range → LpEnd → Option (List ℤ) → Type 0
IsDiveAt rations s box (Optimal point m done) x = IsDiveFrom s box point rations x
IsDiveAt rations s box (Empty m done) x = x ≡ None
IsDiveAt rations s box (Stopped why done m) x = x ≡ None

-- the dive from the end on the box
abbrev pub IsDive : ℕ → OfCandidates
IsDive rations s box x = IsDiveAt rations s box (guide_end s box) x

-- what a guide with so many rations may answer is the same before and after a call, on every box
abbrev pub KeepsAnswers : ℕ → ℕ → Type 0
KeepsAnswers before after = AllowsSame IsClippedEnd IsClippedEnd (IsDive before) (IsDive after) IsFirstCut IsFirstCut
