use Rattle.std.proofs.Common.{◌<◌, length, ap, arith}
use Rattle.opt_network.proofs.RecordLists.{number_step}
use Rattle.opt_report.proofs.basket_report.add_rations.Goals as goal

pub loop-number-preserved : goal.loop-number-preserved
loop-number-preserved c =
    let lt : c.loop-number.number < length c.args.tables.now.commodities = omega (arith, ap length c.commodities-number-end.ensures, c.loop-number-test.true) in
    number_step _ _ _ _ c.args.tables.now.commodities _ lt c.loop-number.invariant c.in_ok-add_ration.ensures
