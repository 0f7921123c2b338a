use Rattle.std.proofs.Common.{◌<◌, length, ap, arith}
use Rattle.opt_network.proofs.RecordLists.{number_step}
use Rattle.opt_network.proofs.listing.add_shorts.Goals as goal

pub loop-need-preserved : goal.loop-need-preserved
loop-need-preserved c =
    let lt : c.loop-need.need < length c.args.tables.now.needs = omega (arith, ap length c.needs-need-end.ensures, c.loop-need-test.true) in
    number_step _ _ _ _ c.args.tables.now.needs _ lt c.loop-need.invariant c.in_ok-add_need.ensures
