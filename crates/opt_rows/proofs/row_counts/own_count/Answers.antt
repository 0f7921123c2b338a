use Rattle.std.proofs.Common.{◌≡◌, ap, arith}
use Rattle.std.specs.Int.{from_bool}
use Rattle.opt_rows.specs.Counting.{has_two_rows}
use Rattle.opt_rows.proofs.SystemCounts.{counted_more, bool_few}
use Rattle.opt_rows.proofs.row_counts.own_count.Goals as goal

pub loop-i-preserved : goal.loop-i-preserved
loop-i-preserved c =
    let more = counted_more has_two_rows c.args.layout.now.quantities c.loop-i.i c.quantity.result c.quantity.ensures.value in
    let same : from_bool c.has_two_rows.result ≡ from_bool (has_two_rows c.quantity.result) = ap from_bool c.has_two_rows.ensures in
    (omega (arith, c.loop-i.invariant.0, more, same, c.from.ensures), omega (arith, c.loop-i.invariant.1, c.from.ensures, bool_few c.has_two_rows.result))
