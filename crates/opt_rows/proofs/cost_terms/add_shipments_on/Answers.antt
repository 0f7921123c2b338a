use Rattle.std.proofs.Common.{◌<◌, ◌∷◌, [], ◌+ℤ◌, length, arith}
use Rattle.opt_model.specs.Quantities.{over_months, of_record}
use Rattle.opt_model.specs.declared.quantity.Quantity.TheVariants.{Ship}
use Rattle.opt_rows.proofs.RowSteps.{number_terms}
use Rattle.opt_rows.proofs.cost_terms.add_shipments_on.Goals as goal

pub loop-commodity-preserved : goal.loop-commodity-preserved
loop-commodity-preserved c =
    let lt : c.loop-commodity.commodity < length c.args.tables.now.commodities = omega (arith, c.loop-commodity-test.true, c.commodity_count-commodity-end.ensures) in
    number_terms c.args.layout.now.quantities _ _ _ (λ n. over_months c.args.tables.now λ m. (Ship c.args.number n m, c.args.arc.now.cost +ℤ of_record c.args.tables.now.places c.args.arc.now.to_place (λ r. r.handling)) ∷ []) c.args.tables.now.commodities _ lt c.loop-commodity.invariant
    c.in_ok-add_shipments_of.ensures
