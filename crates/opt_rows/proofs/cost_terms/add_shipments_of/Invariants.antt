-- the months so far
use Rattle.std.proofs.Common.{◌≡◌, ◌++◌, ◌∷◌, [], ◌+ℤ◌}
use Rattle.std.specs.List.{flat_map, range_with_len}
use Rattle.opt_model.specs.Quantities.{of_record}
use Rattle.opt_model.specs.declared.quantity.Quantity.TheVariants.{Ship}
use Rattle.opt_rows.specs.Gathering.{entries_of}
use Rattle.opt_rows.proofs.cost_terms.add_shipments_of.Given as goal

abbrev pub invariant-loop-earlier : goal.invariant-loop-earlier
invariant-loop-earlier l =
    l.terms ≡ l.initial.terms ++ entries_of l.layout.quantities (flat_map (λ m. (Ship l.number l.commodity m, l.arc.cost +ℤ of_record l.tables.places l.arc.to_place (λ r. r.handling)) ∷ []) (range_with_len 1 l.earlier))
