-- the entries so far
use Rattle.opt_rows.proofs.MapSums.{AreSumsOf}
use Rattle.opt_rows.proofs.sums.sums_of.Given as goal

abbrev pub invariant-loop-entry : goal.invariant-loop-entry
invariant-loop-entry l = AreSumsOf l.entries l.entry-index l.sums.entries
