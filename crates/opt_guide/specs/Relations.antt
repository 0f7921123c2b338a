-- What a guide may answer on a box of a system. Whoever calls a guide trusts none of it.
use Rattle.std.specs.Prelude.{ℕ, List, ℤ, Option, ◌↔◌}
use Rattle.opt_system.specs.Ranges.{Range}
use Rattle.opt_system.specs.Systems.{System}
use Rattle.opt_bound.specs.Multipliers.{Multipliers}

-- which multipliers may be answered on a box of a system
abbrev pub OfMultipliers : Type 1
OfMultipliers = System → Range → Multipliers → Type 0

-- which candidate, or none, may be answered on a box of a system
abbrev pub OfCandidates : Type 1
OfCandidates = System → Range → Option (List ℤ) → Type 0

-- which cut, a quantity with a value, may be answered on a box of a system
abbrev pub OfCuts : Type 1
OfCuts = System → Range → ℕ → ℤ → Type 0

-- what a guide may answer is the same before and after a call, on every box
pub record AllowsSame (weigh weigh' : OfMultipliers) (try try' : OfCandidates) (cut cut' : OfCuts) : Type 0 where
  pub multipliers : (s : System) (box : Range) (m : Multipliers) → (weigh s box m) ↔ (weigh' s box m)
  pub candidates : (s : System) (box : Range) (x : Option (List ℤ)) → (try s box x) ↔ (try' s box x)
  pub cuts : (s : System) (box : Range) (j : ℕ) (t : ℤ) → (cut s box j t) ↔ (cut' s box j t)

-- everything is allowed
abbrev pub any_multipliers : OfMultipliers
any_multipliers s box m = Unit {0}

abbrev pub any_candidate : OfCandidates
any_candidate s box x = Unit {0}

abbrev pub any_cut : OfCuts
any_cut s box j t = Unit {0}
