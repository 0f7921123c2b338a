use Rattle.std.proofs.Common.{◌<◌, length, ap, arith}
use Rattle.opt_network.proofs.RecordLists.{record_step}
use Rattle.opt_network.proofs.flows.add_feeds.Goals as goal

pub loop-number-preserved : goal.loop-number-preserved
loop-number-preserved c =
    let e = c.places-place-items.ensures in
    let lt : c.loop-number.number < length c.args.tables.now.places = omega (arith, ap length e, c.loop-number-test.true) in
    let read = rw e at c.place-item.is in
    record_step _ _ _ _ c.args.tables.now.places _ c.place-item.result lt read c.loop-number.invariant c.in_ok-add_place.ensures
