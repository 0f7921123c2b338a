use Rattle.opt_search.proofs.LeastBound.{IsLeastTo}
use Rattle.opt_search.proofs.conclusion.least_of.Given as goal

abbrev pub invariant-loop-i : goal.invariant-loop-i
invariant-loop-i l = IsLeastTo l.state l.i l.least
