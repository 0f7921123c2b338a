-- What each tableau keeps.
use Rattle.std.proofs.Common.{◌≡◌, ◌≢◌, ◌↔◌, ℕ, ◌+◌, ◌<◌, true, List, ◌∷◌, length, ℤ, pos}
use Rattle.opt_sums.specs.Entries.{coef}
use Rattle.opt_system.specs.Ranges.{Range}
use Rattle.opt_system.specs.Systems.{System}
use Rattle.opt_frac.specs.Equations.{Equation}
use Rattle.opt_frac.proofs.Steps.{gap}
use Rattle.opt_frac.proofs.NeatSteps.{IsNeat}
use Rattle.opt_simplex.specs.Variables.{variables_of, low_of, high_of, rests_high, resting}
use Rattle.opt_simplex.specs.Tableau.{Tableau, equation_at}
use Rattle.opt_simplex.proofs.Meeting.{MeetsStart}
use Rattle.opt_simplex.proofs.Bridge.{Suits}
use Rattle.opt_simplex.proofs.Suiting.{IsThere}

-- the cost equation and the others
abbrev pub all_of : Tableau → List Equation
all_of t = t.cost ∷ t.equations

-- the values meet each equation
abbrev pub MeetsAll : List Equation → (ℕ → ℤ) → Type 0
MeetsAll es f = (i : ℕ) → i < length es → gap (equation_at es i) f ≡ pos 0

-- equations whose basic variables differ, and stand in no term
pub record AreApart (es : List Equation) : Type 0 where
  pub no_term : (i j : ℕ) → i < length es → j < length es → coef (equation_at es i).terms (equation_at es j).basic ≡ pos 0
  pub distinct : (i j : ℕ) → i < length es → j < length es → i ≢ j → (equation_at es i).basic ≢ (equation_at es j).basic

-- how many variables there are without the objective
abbrev pub variables : System → ℕ
variables p = length p.cost + length p.rows

-- the equations are neat and apart, the cost equation is that of the objective, and the values that meet them are those
-- that meet the start; what rests at its high has one, and each cost suits the end at which its variable rests
pub record IsRegular (p : System) (box : Range) (t : Tableau) : Type 0 where
  pub neat : (i : ℕ) → i < length (all_of t) → IsNeat (variables p) (equation_at (all_of t) i)
  pub cost_basic : t.cost.basic ≡ variables p
  pub basics : (i : ℕ) → i < length t.equations → (equation_at t.equations i).basic < variables p
  pub are_apart : AreApart (all_of t)
  pub same_values : (f : ℕ → ℤ) → MeetsAll (all_of t) f ↔ MeetsStart p f
  pub flags : length t.at_high ≡ variables p
  pub ends : (k : ℕ) → rests_high t.at_high k ≡ true → IsThere (high_of (variables_of p box) k)
  pub suit : (k : ℕ) → k < variables p
      → Suits (coef t.cost.terms k) (low_of (variables_of p box) k) (high_of (variables_of p box) k) (resting (variables_of p box) t.at_high k)
