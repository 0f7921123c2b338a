use Rattle.std.proofs.Common.{◌<◌, length, ap, arith}
use Rattle.opt_network.proofs.RecordLists.{number_step}
use Rattle.opt_report.proofs.site_report.add_place.Goals as goal

pub loop-commodity-preserved : goal.loop-commodity-preserved
loop-commodity-preserved c =
    let lt : c.loop-commodity.commodity < length c.args.tables.now.commodities = omega (arith, ap length c.commodities-commodity-end.ensures, c.loop-commodity-test.true) in
    number_step _ _ _ _ c.args.tables.now.commodities _ lt c.loop-commodity.invariant c.in_ok-add_site.ensures
