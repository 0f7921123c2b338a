-- One pivot: the entering variable takes the leaving one's place in the basis.
use Rattle.std.specs.Prelude.{ℕ, ◌+◌, ◌-◌, ◌^◌, ◌==◌, List, [], ◌∷◌, not, length, unsigned_abs, nat_lt, if◌then◌else◌, Option, Some, None, Result, Ok, Err}
use Rattle.std.specs.List.{slice_set}
use Rattle.opt_base.specs.Answers.{◌>>=◌}
use Rattle.opt_sums.specs.Entries.{coef}
use Rattle.opt_frac.specs.Equations.{Equation}
use Rattle.opt_frac.specs.Elimination.{solution_for, elimination}
use Rattle.opt_simplex.specs.declared.end.Why.{Why}
use Rattle.opt_simplex.specs.declared.end.Why.TheVariants.{Wide, Fill}
use Rattle.opt_simplex.specs.Choice.{Leaving}
use Rattle.opt_simplex.specs.Tableau.{Tableau, stored}

-- an equation after a pivot, and how many coefficients are stored then
pub record Treatment : Type 0 where
  pub equation : Equation
  pub count : ℕ

-- equations after a pivot, and how many coefficients are stored then
pub record Sweep : Type 0 where
  pub equations : List Equation
  pub count : ℕ

-- the count, unless it is past the most that may be stored
abbrev pub within_fill : Equation → ℕ → Result Treatment Why
within_fill e count = if nat_lt (2 ^ 24) count then Err Fill else Ok (record { equation = e; count = count })

-- the new equation in place of the old one, where it fits
abbrev pub replacing : Equation → ℕ → Option Equation → Result Treatment Why
replacing old count None = Err Wide
replacing old count (Some new) = within_fill new ((count + length new.terms) - length old.terms)

-- an equation without a term at the entering variable stays as it is; from another one the variable is eliminated
abbrev pub treatment : Equation → ℕ → Equation → Result Treatment Why
treatment by count e =
    if unsigned_abs (coef e.terms by.basic) == 0
    then Ok (record { equation = e; count = count })
    else replacing e count (elimination by e)

-- the turned equation takes the leaving one's position; the other equations are treated
abbrev pub treatment_at : Equation → ℕ → ℕ → ℕ → Equation → Result Treatment Why
treatment_at by position i count e = if i == position then Ok (record { equation = by; count = count }) else treatment by count e

-- the equations from position i on, by rising position, up to the first that stops the pivot
abbrev pub sweep_from : Equation → ℕ → ℕ → ℕ → List Equation → Result Sweep Why
sweep_from by position i count [] = Ok (record { equations = []; count = count })
sweep_from by position i count (e ∷ es) =
    treatment_at by position i count e >>= λ first.
    sweep_from by position (i + 1) first.count es >>= λ rest.
    Ok (record { equations = first.equation ∷ rest.equations; count = rest.count })

-- all equations treated by the turned one, then the cost equation; the leaving variable rests at the end that it passed
abbrev pub next_tableau_by : Equation → Tableau → Leaving → Result Tableau Why
next_tableau_by by t leaving =
    sweep_from by leaving.position 0 (stored t) t.equations >>= λ s.
    treatment by s.count t.cost >>= λ c.
    Ok (record { equations = s.equations; cost = c.equation; at_high = slice_set t.at_high leaving.equation.basic (not leaving.below) })

-- the leaving equation is turned for the entering variable, which takes its place
unfoldable pub next_tableau : Tableau → Leaving → ℕ → Result Tableau Why
next_tableau t leaving col = next_tableau_by (solution_for col leaving.equation) t leaving
