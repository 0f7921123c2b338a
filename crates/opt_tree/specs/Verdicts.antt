-- What a verdict claims of a system of rows.
use Rattle.std.specs.Prelude.{◌≡◌, List, Some, None, ℤ, pos, ◌-ℤ◌, ◌≤ℤ◌}
use Rattle.opt_base.specs.declared.verdict.Verdict.{Verdict}
use Rattle.opt_base.specs.declared.verdict.Verdict.TheVariants as verdict
use Rattle.opt_system.specs.Systems.{System, Meets, value}

-- no point that meets the rows has a value below this bound
abbrev pub Below : System → ℤ → Type 0
Below s bound = (x : List ℤ) → Meets s x → bound ≤ℤ value s x

-- the point meets the rows and has this value
pub record Attains (s : System) (x : List ℤ) (objective : ℤ) : Type 0 where
  pub meets : Meets s x
  pub value_is : value s x ≡ objective

-- a point whose value lies above the bound by at most the permitted gap
pub record WithinGap (s : System) (gap : ℤ) (x : List ℤ) (objective bound : ℤ) : Type 0 where
  pub attains : Attains s x objective
  pub bound_under : pos 0 ≤ℤ (objective -ℤ bound)
  pub gap_kept : (objective -ℤ bound) ≤ℤ gap
  pub below : Below s bound

-- a point that is known while lower ones are not ruled out
pub record BestKnown (s : System) (x : List ℤ) (bound best : ℤ) : Type 0 where
  pub attains : Attains s x best
  pub bound_under : bound ≤ℤ best
  pub below : Below s bound

-- the verdict is true of the system, with this point where it names an objective or a best
abbrev pub IsTrueVerdict : System → ℤ → Verdict → List ℤ → Type 0
IsTrueVerdict s gap (verdict.Plan objective bound) x = WithinGap s gap x objective bound
IsTrueVerdict s gap verdict.NoPlan x = (y : List ℤ) → Meets s y → ⊥
IsTrueVerdict s gap (verdict.Unfinished bound None) x = Below s bound
IsTrueVerdict s gap (verdict.Unfinished bound (Some best)) x = BestKnown s x bound best
