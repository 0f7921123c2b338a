use Rattle.std.proofs.Common.{◌≡◌, length}
use Rattle.opt_check.specs.Way.{IsWay, waiting_after}
use Rattle.opt_check.proofs.walk.climb.Given as goal

abbrev pub invariant-loop-quantity : goal.invariant-loop-quantity
invariant-loop-quantity l = IsWay l.range l.way × (waiting_after l.range l.way ≡ waiting_after l.fn.range l.fn.way)

abbrev pub decreases-loop-quantity : goal.decreases-loop-quantity
decreases-loop-quantity l = length l.way
