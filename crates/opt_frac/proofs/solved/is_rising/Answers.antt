use Rattle.std.proofs.Common.{pos, arith}
use Rattle.opt_sums.proofs.RisingLemmas.{rising_more}
use Rattle.opt_frac.proofs.solved.is_rising.Goals as goal

pub loop-i-preserved : goal.loop-i-preserved
loop-i-preserved c =
    rising_more c.args.terms.now c.loop-i.i (0, pos 0) c.loop-i.auto.i c.loop-i-test.true c.loop-i.invariant (omega (arith, c.if-terms-i.false))
