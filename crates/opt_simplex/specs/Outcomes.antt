-- What the calls of a turn answer, in the words of the rule.
use Rattle.std.specs.Prelude.{◌≡◌, ℕ, List, Option, Some, None, Result, Ok, Err, ℤ, ◌+ℤ◌, ◌*ℤ◌, ◌&&◌, if◌then◌else◌}
use Rattle.opt_frac.specs.declared.elim_fault.ElimFault.{ElimFault}
use Rattle.opt_frac.specs.declared.elim_fault.ElimFault.TheVariants.{Wide as WideFault, OutOfMemory as NoMemory}
use Rattle.opt_frac.specs.Divisors.{fits}
use Rattle.opt_frac.specs.Equations.{Equation}
use Rattle.opt_simplex.specs.declared.choice.Leaving.{Leaving as Place}
use Rattle.opt_simplex.specs.declared.end.LpEnd.{LpEnd}
use Rattle.opt_simplex.specs.declared.end.Why.{Why}
use Rattle.opt_simplex.specs.declared.end.Why.TheVariants.{Wide}
use Rattle.opt_simplex.specs.declared.pivot.PivotFault.{PivotFault}
use Rattle.opt_simplex.specs.declared.pivot.PivotFault.TheVariants.{Stops, OutOfMemory}
use Rattle.opt_simplex.specs.declared.simplex.Look.{Look as Seen}
use Rattle.opt_simplex.specs.declared.simplex.Look.TheVariants.{Ends as SeenEnd, Enters as SeenEntry}
use Rattle.opt_simplex.specs.Variables.{Variables}
use Rattle.opt_simplex.specs.Tableau.{Tableau, equation_at}
use Rattle.opt_simplex.specs.Choice.{Leaving}
use Rattle.opt_simplex.specs.Pivot.{next_tableau}
use Rattle.opt_simplex.specs.Rule.{Look, Ends, Enters, stop}

-- the variable of the equation at the place leaves
abbrev pub leaving_at : List Equation → Place → Leaving
leaving_at es l = record { position = l.position; equation = equation_at es l.position; below = l.below }

-- what the tableau with these equations asks for
abbrev pub look_at : List Equation → Seen → Look
look_at es (SeenEnd end) = Ends end
look_at es (SeenEntry l col) = Enters (leaving_at es l) col

-- what was made is the answer as it is seen, or a pivot stops there for the same cause, unless memory ran out
abbrev pub Makes : {T X : Type 0} → (T → X) → Result T PivotFault → Result X Why → Type 0
Makes view (Ok x) made = made ≡ Ok (view x)
Makes view (Err (Stops why)) made = made ≡ Err why
Makes view (Err OutOfMemory) made = Unit {0}

-- why a pivot was not made, where an equation was not
abbrev pub pivot_fault : ElimFault → PivotFault
pivot_fault WideFault = Stops Wide
pivot_fault NoMemory = OutOfMemory

-- the pivot's outcome: the next tableau, or the end where it stops
abbrev pub pivot_of : Variables → ℕ → Tableau → Result Tableau Why → Result Tableau LpEnd
pivot_of v done t (Ok next) = Ok next
pivot_of v done t (Err why) = Err (stop v why done t)

-- what a turn makes of what the tableau asks for: the next tableau, or the end
abbrev pub turn_of : Variables → ℕ → Tableau → Look → Result Tableau LpEnd
turn_of v done t (Ends end) = Err end
turn_of v done t (Enters l col) = pivot_of v done t (next_tableau t l col)

-- the end that the turn reaches, or else the tableau after it
abbrev pub Turns : Option LpEnd → Tableau → Result Tableau LpEnd → Type 0
Turns None next made = made ≡ Ok next
Turns (Some end) next made = made ≡ Err end

-- the sum with a product added, or none where the product or the sum does not fit
abbrev pub with_product : ℤ → ℤ → ℤ → Option ℤ
with_product sum coefficient value =
    if fits (coefficient *ℤ value) && fits (sum +ℤ (coefficient *ℤ value)) then Some (sum +ℤ (coefficient *ℤ value)) else None
