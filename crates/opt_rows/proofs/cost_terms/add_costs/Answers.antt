use Rattle.std.proofs.Common.{◌∷◌, [], ◌+ℤ◌}
use Rattle.opt_model.specs.Quantities.{over, over_months, of_record}
use Rattle.opt_model.specs.declared.quantity.Quantity.TheVariants.{Buy, Ship, Keep, Order}
use Rattle.opt_rows.proofs.CostSteps.{four_terms}
use Rattle.opt_rows.proofs.cost_terms.add_costs.Goals as goal

pub returns : goal.returns
returns c =
    four_terms c.args.layout.now.quantities
    (over c.args.tables.now.offers λ o offer. over_months c.args.tables.now λ m. (Buy o m, offer.price) ∷ [])
    (over c.args.tables.now.arcs λ a arc. over c.args.tables.now.commodities λ k _. over_months c.args.tables.now λ m. (Ship a k m, arc.cost +ℤ of_record c.args.tables.now.places arc.to_place (λ r. r.handling)) ∷ [])
    (over c.args.tables.now.places λ p place. over c.args.tables.now.commodities λ k _. over_months c.args.tables.now λ m. (Keep p k m, place.storage_cost) ∷ [])
    (over c.args.tables.now.offers λ o offer. over_months c.args.tables.now λ m. (Order o m, offer.fee) ∷ [])
    _ _ _ _ _ c.in_ok-add_purchases.ensures c.in_ok-add_shipments.ensures c.in_ok-add_storage.ensures c.in_ok-add_fees.ensures
