use Rattle.std.proofs.Common.{◌<◌, length, arith}
use Rattle.opt_report.proofs.Remainders.{rest_next}
use Rattle.opt_report.proofs.digits.remainder.Goals as goal

pub loop-digit-preserved : goal.loop-digit-preserved
loop-digit-preserved c =
    let lt : c.loop-digit.digit-index < length c.args.text.now = omega arith in
    let digit = rw c.as_bytes-digit-items.ensures.value at c.from.ensures in
    rest_next c.args.text.now c.loop-digit.digit-index c.args.divisor c.loop-digit.rest c.from.result c.requires.number lt c.loop-digit.invariant digit
