use Rattle.std.proofs.Common.{◌<◌, length, ap, arith}
use Rattle.opt_network.proofs.RecordLists.{record_step}
use Rattle.opt_network.proofs.listing.add_buys.Goals as goal

pub loop-number-preserved : goal.loop-number-preserved
loop-number-preserved c =
    let e = c.offers-offer-items.ensures in
    let lt : c.loop-number.number < length c.args.tables.now.offers = omega (arith, ap length e, c.loop-number-test.true) in
    let read = rw e at c.offer-item.is in
    record_step _ _ _ _ c.args.tables.now.offers _ c.offer-item.result lt read c.loop-number.invariant c.in_ok-add_offer.ensures
