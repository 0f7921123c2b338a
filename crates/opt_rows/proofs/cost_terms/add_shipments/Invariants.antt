-- the arcs so far
use Rattle.std.proofs.Common.{◌≡◌, ◌++◌, ◌∷◌, [], take, ◌+ℤ◌}
use Rattle.opt_model.specs.Quantities.{over, over_months, of_record}
use Rattle.opt_model.specs.declared.quantity.Quantity.TheVariants.{Ship}
use Rattle.opt_rows.specs.Gathering.{entries_of}
use Rattle.opt_rows.proofs.cost_terms.add_shipments.Given as goal

abbrev pub invariant-loop-number : goal.invariant-loop-number
invariant-loop-number l =
    l.terms ≡ l.initial.terms ++ entries_of l.layout.quantities (over (take l.number l.tables.arcs) λ n r. over l.tables.commodities λ k _. over_months l.tables λ m. (Ship n k m, r.cost +ℤ of_record l.tables.places r.to_place (λ p. p.handling)) ∷ [])
