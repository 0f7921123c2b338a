-- the commodities so far
use Rattle.std.proofs.Common.{◌≡◌, ◌++◌, ◌∷◌, [], take}
use Rattle.opt_model.specs.Quantities.{over, over_months}
use Rattle.opt_model.specs.declared.quantity.Quantity.TheVariants.{Keep}
use Rattle.opt_rows.specs.Gathering.{entries_of}
use Rattle.opt_rows.proofs.cost_terms.add_storage_at.Given as goal

abbrev pub invariant-loop-commodity : goal.invariant-loop-commodity
invariant-loop-commodity l =
    l.terms ≡ l.initial.terms ++ entries_of l.layout.quantities (over (take l.commodity l.tables.commodities) λ c _. over_months l.tables λ m. (Keep l.number c m, l.place.storage_cost) ∷ [])
