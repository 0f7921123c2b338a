use Rattle.std.proofs.Common.{take}
use Rattle.opt_simplex.specs.Columns.{Follow}
use Rattle.opt_simplex.proofs.columns.Columns.add_rest.Given as goal

abbrev pub invariant-loop-i : goal.invariant-loop-i
invariant-loop-i l = Follow l.position (take l.from l.terms) (take l.i l.terms) l.initial.self l.self
