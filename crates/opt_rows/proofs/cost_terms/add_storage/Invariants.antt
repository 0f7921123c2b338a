-- the places so far
use Rattle.std.proofs.Common.{◌≡◌, ◌++◌, ◌∷◌, [], take}
use Rattle.opt_model.specs.Quantities.{over, over_months}
use Rattle.opt_model.specs.declared.quantity.Quantity.TheVariants.{Keep}
use Rattle.opt_rows.specs.Gathering.{entries_of}
use Rattle.opt_rows.proofs.cost_terms.add_storage.Given as goal

abbrev pub invariant-loop-number : goal.invariant-loop-number
invariant-loop-number l =
    l.terms ≡ l.initial.terms ++ entries_of l.layout.quantities (over (take l.number l.tables.places) λ n r. over l.tables.commodities λ c _. over_months l.tables λ m. (Keep n c m, r.storage_cost) ∷ [])
