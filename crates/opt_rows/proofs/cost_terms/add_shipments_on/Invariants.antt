-- the commodities so far
use Rattle.std.proofs.Common.{◌≡◌, ◌++◌, ◌∷◌, [], take, ◌+ℤ◌}
use Rattle.opt_model.specs.Quantities.{over, over_months, of_record}
use Rattle.opt_model.specs.declared.quantity.Quantity.TheVariants.{Ship}
use Rattle.opt_rows.specs.Gathering.{entries_of}
use Rattle.opt_rows.proofs.cost_terms.add_shipments_on.Given as goal

abbrev pub invariant-loop-commodity : goal.invariant-loop-commodity
invariant-loop-commodity l =
    l.terms ≡ l.initial.terms ++ entries_of l.layout.quantities (over (take l.commodity l.tables.commodities) λ c _. over_months l.tables λ m. (Ship l.number c m, l.arc.cost +ℤ of_record l.tables.places l.arc.to_place (λ r. r.handling)) ∷ [])
