use Rattle.std.proofs.Common.{◌<◌, ◌∷◌, [], length, arith}
use Rattle.opt_model.specs.Quantities.{over_months}
use Rattle.opt_model.specs.declared.quantity.Quantity.TheVariants.{Keep}
use Rattle.opt_rows.proofs.RowSteps.{number_terms}
use Rattle.opt_rows.proofs.cost_terms.add_storage_at.Goals as goal

pub loop-commodity-preserved : goal.loop-commodity-preserved
loop-commodity-preserved c =
    let lt : c.loop-commodity.commodity < length c.args.tables.now.commodities = omega (arith, c.loop-commodity-test.true, c.commodity_count-commodity-end.ensures) in
    number_terms c.args.layout.now.quantities _ _ _ (λ n. over_months c.args.tables.now λ m. (Keep c.args.number n m, c.args.place.now.storage_cost) ∷ []) c.args.tables.now.commodities _ lt c.loop-commodity.invariant
    c.in_ok-add_storage_of.ensures
