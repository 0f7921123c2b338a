use Rattle.std.proofs.Common.{take}
use Rattle.opt_system.specs.Columns.{AreColumns}
use Rattle.opt_system.proofs.columns.lists_of.Given as goal

abbrev pub invariant-loop-i : goal.invariant-loop-i
invariant-loop-i l = AreColumns l.columns.items l.quantities (take l.i l.rows)
