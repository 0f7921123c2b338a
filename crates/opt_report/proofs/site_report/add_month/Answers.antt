use Rattle.std.proofs.Common.{◌<◌, length, ap, arith}
use Rattle.opt_network.proofs.RecordLists.{number_step}
use Rattle.opt_report.proofs.site_report.add_month.Goals as goal

pub loop-place-preserved : goal.loop-place-preserved
loop-place-preserved c =
    let lt : c.loop-place.place < length c.args.tables.now.places = omega (arith, ap length c.places-place-end.ensures, c.loop-place-test.true) in
    number_step _ _ _ _ c.args.tables.now.places _ lt c.loop-place.invariant c.in_ok-add_place.ensures
