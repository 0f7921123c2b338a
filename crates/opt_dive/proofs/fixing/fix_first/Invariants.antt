use Rattle.opt_dive.proofs.FixLemmas.{AreFixed}
use Rattle.opt_dive.proofs.fixing.fix_first.Given as goal

abbrev pub invariant-loop-j : goal.invariant-loop-j
invariant-loop-j l = AreFixed l.j l.point l.fn.range l.range
