use Rattle.std.proofs.Common.{◌<◌, length, ap, arith}
use Rattle.opt_network.proofs.RecordLists.{number_step}
use Rattle.opt_network.proofs.listing.add_rations.Goals as goal

pub loop-basket-preserved : goal.loop-basket-preserved
loop-basket-preserved c =
    let lt : c.loop-basket.basket < length c.args.tables.now.baskets = omega (arith, ap length c.baskets-basket-end.ensures, c.loop-basket-test.true) in
    number_step _ _ _ _ c.args.tables.now.baskets _ lt c.loop-basket.invariant c.in_ok-add_basket.ensures
