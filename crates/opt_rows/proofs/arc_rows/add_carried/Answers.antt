use Rattle.std.proofs.Common.{◌<◌, ◌∷◌, [], pos, length, arith}
use Rattle.opt_model.specs.declared.quantity.Quantity.TheVariants.{Ship}
use Rattle.opt_rows.proofs.RowSteps.{number_terms}
use Rattle.opt_rows.proofs.arc_rows.add_carried.Goals as goal

pub loop-commodity-preserved : goal.loop-commodity-preserved
loop-commodity-preserved c =
    let lt : c.loop-commodity.commodity < length c.args.tables.now.commodities = omega (arith, c.loop-commodity-test.true, c.commodity_count-commodity-end.ensures) in
    number_terms c.args.layout.now.quantities _ _ _ (λ n. (Ship c.args.arc n c.args.month, pos 1) ∷ []) c.args.tables.now.commodities _ lt c.loop-commodity.invariant c.in_ok-add.ensures
