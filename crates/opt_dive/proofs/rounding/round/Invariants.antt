use Rattle.opt_dive.proofs.FixLemmas.{room}
use Rattle.opt_dive.proofs.RoundSteps.{IsOnWay}
use Rattle.opt_dive.proofs.rounding.round.Given as goal

abbrev pub invariant-loop-range : goal.invariant-loop-range
invariant-loop-range l = IsOnWay l.system l.fn.range l.range

abbrev pub decreases-loop-range : goal.decreases-loop-range
decreases-loop-range l = room l.range
