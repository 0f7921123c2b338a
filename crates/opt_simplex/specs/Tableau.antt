-- The equations that the simplex keeps, those that it begins with, and the multipliers that they give.
use Rattle.std.specs.Prelude.{ℕ, ◌+◌, ◌-◌, ◌==◌, List, [], ◌∷◌, Bool, false, not, map, filter, length, replicate, ℤ, pos, unsigned_abs, nat_le, sum_by, slice_index_or}
use Rattle.std.specs.List.{enumerate_from}
use Rattle.opt_system.specs.declared.rows.Row.{Row}
use Rattle.opt_system.specs.Systems.{System}
use Rattle.opt_bound.specs.Multipliers.{Multipliers}
use Rattle.opt_frac.specs.Equations.{Equation}
use Rattle.opt_frac.specs.Elimination.{whole, negated_if}

-- the equations of the basic variables by position, the equation of the objective, and for each variable whether it
-- rests at its high while it is outside the basis
pub record Tableau : Type 0 where
  pub equations : List Equation
  pub cost : Equation
  pub at_high : List Bool

-- equation i, or an empty one past the end
abbrev pub equation_at : List Equation → ℕ → Equation
equation_at es i = slice_index_or es i (record { basic = 0; lead = pos 1; terms = [] })

-- the equations of the rows' sums, from variable k on
abbrev pub row_equations : ℕ → List Row → List Equation
row_equations k [] = []
row_equations k (row ∷ rows) = record { basic = k; lead = pos 1; terms = row.terms } ∷ row_equations (k + 1) rows

-- the entries that are not 0
abbrev pub not_zeros : List (ℕ × ℤ) → List (ℕ × ℤ)
not_zeros es = filter (λ e. not (unsigned_abs e.1 == 0)) es

-- the basis of the rows' sums: each is its row's terms, the objective is the costs, and all quantities rest at their lows
abbrev pub start : System → Tableau
start p =
    record {
      equations = row_equations (length p.cost) p.rows;
      cost = record { basic = length p.cost + length p.rows; lead = pos 1; terms = not_zeros (enumerate_from 0 p.cost) };
      at_high = replicate (length p.cost + length p.rows) false;
    }

-- how many coefficients are stored
abbrev pub stored : Tableau → ℕ
stored t = sum_by (λ e. length e.terms) t.equations + length t.cost.terms

-- the coefficients at the rows' sums, by the row's number, where n variables stand before them
abbrev pub at_rows : ℕ → List (ℕ × ℤ) → List (ℕ × ℤ)
at_rows n es = map (λ e. (e.0 - n, e.1)) (filter (λ e. nat_le n e.0) es)

-- the multipliers of the cost equation: its lead, and its coefficients at the rows' sums
abbrev pub cost_multipliers : ℕ → Tableau → Multipliers
cost_multipliers n t = record { q = t.cost.lead; entries = at_rows n t.cost.terms }

-- the multipliers of an equation whose variable cannot come into its range: its coefficients at the rows' sums, its own
-- variable among them, with signs changed where the value is below its low
abbrev pub empty_multipliers : ℕ → Bool → Equation → Multipliers
empty_multipliers n below e = record { q = pos 0; entries = at_rows n (negated_if below (whole e)) }
