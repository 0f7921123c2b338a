-- The bounded dual simplex from the basis of the rows' sums: what one turn does, and where the turns end.
use Rattle.std.specs.Prelude.{ℕ, zero, suc, ◌+◌, List, ℤ, Option, Some, None, Result, Ok, Err}
use Rattle.opt_system.specs.Ranges.{Range}
use Rattle.opt_system.specs.Systems.{System}
use Rattle.opt_simplex.specs.declared.end.LpEnd.{LpEnd}
use Rattle.opt_simplex.specs.declared.end.LpEnd.TheVariants.{Optimal, Empty, Stopped}
use Rattle.opt_simplex.specs.declared.end.Why.{Why}
use Rattle.opt_simplex.specs.declared.end.Why.TheVariants.{Wide, Pivots}
use Rattle.opt_simplex.specs.Variables.{Variables, variables_of, resting}
use Rattle.opt_simplex.specs.Tableau.{Tableau, start, cost_multipliers, empty_multipliers}
use Rattle.opt_simplex.specs.Choice.{Leaving, values, leaving_from, entering_from, point_of}
use Rattle.opt_simplex.specs.Pivot.{next_tableau}

-- what a tableau asks for: the end, or a pivot
pub data Look : Type 0 where
  Ends : LpEnd → Look
  Enters : Leaving → ℕ → Look

-- the pivots stop here, with the multipliers of the cost equation
abbrev pub stop : Variables → Why → ℕ → Tableau → LpEnd
stop v why done t = Stopped why done (cost_multipliers v.quantities t)

-- no variable may enter: the box is empty; else the one that enters
abbrev pub entering : Variables → ℕ → Leaving → Option (ℕ × ℤ) → Look
entering v done leaving None = Ends (Empty (empty_multipliers v.quantities leaving.below leaving.equation) done)
entering v done leaving (Some e) = Enters leaving e.0

-- no variable leaves: the point is optimal; else the one that enters for it
abbrev pub leaving : Variables → ℕ → Tableau → List ℤ → Option Leaving → Look
leaving v done t zs None = Ends (Optimal (point_of v.quantities (resting v t.at_high) t.equations zs) (cost_multipliers v.quantities t) done)
leaving v done t zs (Some l) = entering v done l (entering_from v t.at_high l.below t.cost None l.equation.terms)

-- a value does not fit; else the choice of the variables that leave and enter
abbrev pub look_with_values : Variables → ℕ → Tableau → Option (List ℤ) → Look
look_with_values v done t None = Ends (stop v Wide done t)
look_with_values v done t (Some zs) = leaving v done t zs (leaving_from v 0 None t.equations zs)

-- what the tableau asks for after so many pivots
abbrev pub look_of : Variables → ℕ → Tableau → Look
look_of v done t = look_with_values v done t (values (resting v t.at_high) t.equations)

-- the pivot's outcome: it stops, or the turns go on
abbrev pub after : Variables → ℕ → Tableau → Result Tableau Why → (Tableau → LpEnd) → LpEnd
after v done t (Err why) go = stop v why done t
after v done t (Ok next) go = go next

-- the end is here, or the pivot is made
abbrev pub course : Variables → ℕ → Tableau → Look → (Tableau → LpEnd) → LpEnd
course v done t (Ends end) go = end
course v done t (Enters l col) go = after v done t (next_tableau t l col) go

-- the end is here, or the limit of pivots is reached
abbrev pub end_at_limit : Variables → ℕ → Tableau → Look → LpEnd
end_at_limit v done t (Ends end) = end
end_at_limit v done t (Enters l col) = stop v Pivots done t

-- the end that so many more pivots reach from a tableau
abbrev pub turns : Variables → ℕ → ℕ → Tableau → LpEnd
turns v zero done t = end_at_limit v done t (look_of v done t)
turns v (suc more) done t = course v done t (look_of v done t) (λ next. turns v more (done + 1) next)

-- the end of the simplex on the box with at most so many pivots
abbrev pub end_of : System → Range → ℕ → LpEnd
end_of p box pivots = turns (variables_of p box) pivots 0 (start p)
