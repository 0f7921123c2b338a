use Rattle.std.proofs.Common.{take}
use Rattle.opt_simplex.specs.Columns.{AreColumns}
use Rattle.opt_simplex.proofs.columns.Columns.new.Given as goal

abbrev pub invariant-loop-i : goal.invariant-loop-i
invariant-loop-i l = AreColumns l.count (take l.i l.equations) l.columns
