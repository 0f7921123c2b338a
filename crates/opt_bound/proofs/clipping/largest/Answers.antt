use Rattle.std.proofs.Common.{◌≡◌, pos, get_or, unsigned_abs, arith}
use Rattle.std.proofs.lemmas.Int.{ints}
use Rattle.opt_bound.proofs.ClipLemmas.{IsLargest-more}
use Rattle.opt_bound.proofs.clipping.largest.Goals as goal

pub loop-entry-preserved : goal.loop-entry-preserved
loop-entry-preserved c =
    let value : c.unsigned_abs.result ≡ unsigned_abs (get_or c.args.entries.now c.loop-entry.entry-index (0, pos 0)).1 =
    omega (arith, ints, c.unsigned_abs.ensures.value)
    in
    rw c.max-size.ensures
    (IsLargest-more _ c.args.entries.now c.loop-entry.entry-index (0, pos 0) c.loop-entry.size c.unsigned_abs.result c.loop-entry-test.true value c.loop-entry.invariant.0, omega (arith, c.loop-entry.invariant.1, c.unsigned_abs.ensures.bound))
