use Rattle.std.proofs.Common.{◌<◌, length, arith}
use Rattle.opt_model.specs.Quantities.{over_months, list_if}
use Rattle.opt_network.specs.Counts.{is_fed}
use Rattle.opt_rows.specs.Parts.{handout_pair}
use Rattle.opt_rows.proofs.RowSteps.{number_rows}
use Rattle.opt_rows.proofs.handout_rows.add_place.Goals as goal

pub loop-commodity-preserved : goal.loop-commodity-preserved
loop-commodity-preserved c =
    let t = c.args.tables.now in
    let site = c.args.site in
    let within : c.loop-commodity.commodity < length t.commodities = omega (arith, c.loop-commodity-test.true, c.commodity_count-commodity-end.ensures) in
    number_rows c.args.layout.now.quantities _ _ _ (λ n. over_months t λ m. list_if (is_fed t site.place site.kind m) (handout_pair t site.place n m))
    t.commodities _ within c.loop-commodity.invariant c.in_ok-add_months.ensures
