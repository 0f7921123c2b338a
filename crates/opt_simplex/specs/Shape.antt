-- What the simplex keeps of its variables and equations, so that each look-up is within its list.
use Rattle.std.specs.Prelude.{◌≡◌, ◌≢◌, ℕ, ◌+◌, ◌<◌, ◌≤◌, All, length, IfSome, ℤ, pos, ◌≤ℤ◌, Ok}
use Rattle.opt_base.specs.declared.limits.TheConstants.{QUANTITY_LIMIT, ROW_LIMIT}
use Rattle.opt_sums.specs.Entries.{AllBelow, coef}
use Rattle.opt_frac.specs.Divisors.{Fits}
use Rattle.opt_frac.specs.Equations.{Equation, HasTerm}
use Rattle.opt_frac.specs.Elimination.{solution_for}
use Rattle.opt_simplex.specs.Variables.{Variables}
use Rattle.opt_simplex.specs.Tableau.{Tableau, equation_at}
use Rattle.opt_simplex.specs.Choice.{Leaving}
use Rattle.opt_simplex.specs.Pivot.{next_tableau}
use Rattle.opt_simplex.specs.Rule.{Enters, look_of}

-- each variable has a low and a place for a high, and these fit; there are not too many quantities, and of rows' sums
pub record AreKept (v : Variables) : Type 0 where
  pub same_length : length v.high ≡ length v.low
  pub few_quantities : v.quantities ≤ QUANTITY_LIMIT
  pub few_rows : length v.low ≤ v.quantities + ROW_LIMIT
  pub quantities_first : v.quantities ≤ length v.low
  pub lows_fit : All Fits v.low
  pub highs_fit : All (λ high. IfSome high Fits) v.high

-- the lead is at least 1; the basic variable and the variables of the terms are among the first n
pub record IsAmong (n : ℕ) (e : Equation) : Type 0 where
  pub lead : pos 1 ≤ℤ e.lead
  pub basic : e.basic < n
  pub terms : AllBelow n e.terms

-- the equations speak of the first n variables, the costs too; there are not more equations, and each variable has an
-- end at which it rests
pub record IsShaped (n : ℕ) (t : Tableau) : Type 0 where
  pub equations : All (IsAmong n) t.equations
  pub cost : AllBelow n t.cost.terms
  pub few : length t.equations ≤ n
  pub flags : length t.at_high ≡ n

-- the turned equation can take its variable's place in this one: both are solved for different variables, and neither
-- stands in the turned one's terms
pub record IsOpenTo (by e : Equation) : Type 0 where
  pub other : e.basic ≢ by.basic
  pub apart : coef by.terms e.basic ≡ pos 0

-- the equation at the position has a term at the variable, and its turned one can take that variable's place in the others;
-- no equation has a term at the basic variable of that one
pub record MayPivot (t : Tableau) (position col : ℕ) : Type 0 where
  pub inside : position < length t.equations
  pub term : HasTerm (equation_at t.equations position) col
  pub others : (i : ℕ) → i < length t.equations → i ≢ position → IsOpenTo (solution_for col (equation_at t.equations position)) (equation_at t.equations i)
  pub cost : IsOpenTo (solution_for col (equation_at t.equations position)) t.cost
  pub unused : (i : ℕ) → i < length t.equations
      → All (λ term. term.0 ≢ (equation_at t.equations position).basic) (equation_at t.equations i).terms

-- the pivot, where it is made, leaves the tableau shaped
abbrev pub StaysShaped : ℕ → Tableau → Leaving → ℕ → Type 0
StaysShaped n t l col = (next : Tableau) → next_tableau t l col ≡ Ok next → length next.equations ≡ length t.equations → IsShaped n next

-- the term may be chosen: its coefficient is not 0 and fits
pub record IsChoice (term : ℕ × ℤ) : Type 0 where
  pub no_zero : term.1 ≢ pos 0
  pub fits : Fits term.1

-- where the tableau asks for a pivot, it may be made
abbrev pub MayTurn : Variables → ℕ → Tableau → Type 0
MayTurn v done t = (l : Leaving) (col : ℕ) → look_of v done t ≡ Enters l col → MayPivot t l.position col

-- where the tableau asks for a pivot, the next one is shaped
abbrev pub MayGoOn : Variables → ℕ → Tableau → Type 0
MayGoOn v done t = (l : Leaving) (col : ℕ) → look_of v done t ≡ Enters l col → StaysShaped (length v.low) t l col
