use Rattle.std.proofs.Common.{◌+◌, ◌∷◌, ◌++◌, [], ℤ, ◌+ℤ◌, ap, ◌∙◌}
use Rattle.opt_model.specs.Quantities.{of_record}
use Rattle.opt_model.specs.declared.quantity.Quantity.{Quantity}
use Rattle.opt_model.specs.declared.quantity.Quantity.TheVariants.{Ship}
use Rattle.opt_rows.specs.Gathering.{entries_of}
use Rattle.opt_rows.proofs.RowSteps.{month_terms, term_is}
use Rattle.opt_rows.proofs.cost_terms.add_shipments_of.Goals as goal

pub loop-earlier-preserved : goal.loop-earlier-preserved
loop-earlier-preserved c =
    month_terms c.args.layout.now.quantities _ _ _ (λ m. (Ship c.args.number c.args.commodity m, c.args.arc.now.cost +ℤ of_record c.args.tables.now.places c.args.arc.now.to_place (λ r. r.handling)) ∷ []) c.loop-earlier.earlier c.loop-earlier.invariant
    (c.in_ok-add.ensures
    ∙ ap (λ (d : Quantity × ℤ). c.loop-earlier.terms ++ entries_of c.args.layout.now.quantities (d ∷ []))
    (term_is c.shipment.result (Ship c.args.number c.args.commodity (c.loop-earlier.earlier + 1)) (c.args.arc.now.cost +ℤ of_record c.args.tables.now.places c.args.arc.now.to_place (λ r. r.handling)) c.shipment.ensures.quantity c.shipment.ensures.coefficient))
