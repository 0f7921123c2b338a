use Rattle.std.proofs.Common.{◌<◌, length, arith}
use Rattle.opt_model.specs.Quantities.{over_months}
use Rattle.opt_rows.specs.Parts.{balance_row}
use Rattle.opt_rows.proofs.RowSteps.{number_rows}
use Rattle.opt_rows.proofs.balance_rows.add_commodities.Goals as goal

pub loop-commodity-preserved : goal.loop-commodity-preserved
loop-commodity-preserved c =
    let t = c.args.tables.now in
    let within : c.loop-commodity.commodity < length t.commodities = omega (arith, c.loop-commodity-test.true, c.commodity_count-commodity-end.ensures) in
    number_rows c.args.layout.now.quantities _ _ _ (λ n. over_months t (balance_row t c.args.flows.now.place n)) t.commodities _ within c.loop-commodity.invariant c.in_ok-add_months.ensures

pub add_months-requires-clause-commodity : goal.add_months-requires-clause-commodity
add_months-requires-clause-commodity c = omega (arith, c.loop-commodity-test.true, c.commodity_count-commodity-end.ensures)
