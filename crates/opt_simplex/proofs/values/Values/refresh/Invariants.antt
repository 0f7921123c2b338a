use Rattle.std.proofs.Common.{drop}
use Rattle.opt_simplex.specs.Values.{AreNotedBut}
use Rattle.opt_simplex.proofs.values.Values.refresh.Given as goal

abbrev pub invariant-loop-i : goal.invariant-loop-i
invariant-loop-i l = AreNotedBut l.variables l.tableau l.self (drop l.i-index l.positions)
