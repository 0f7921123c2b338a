-- the needs so far
use Rattle.std.proofs.Common.{◌≡◌, ◌++◌, ◌∷◌, [], take}
use Rattle.opt_model.specs.Quantities.{over, over_months}
use Rattle.opt_model.specs.declared.quantity.Quantity.TheVariants.{Short}
use Rattle.opt_rows.specs.Gathering.{entries_of}
use Rattle.opt_rows.proofs.goal_rows.add_lacks.Given as goal

abbrev pub invariant-loop-number : goal.invariant-loop-number
invariant-loop-number l =
    l.terms ≡ l.initial.terms ++ entries_of l.layout.quantities (over (take l.number l.tables.needs) λ d need. over_months l.tables λ m. (Short d m, need.weight) ∷ [])
