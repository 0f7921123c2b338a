use Rattle.std.proofs.Common.{◌≡◌, length, take}
use Rattle.opt_simplex.specs.Tableau.{row_equations}
use Rattle.opt_simplex.proofs.start.row_equations.Given as goal

abbrev pub invariant-loop-i : goal.invariant-loop-i
invariant-loop-i l = l.equations.items ≡ row_equations (length l.system.cost) (take l.i l.system.rows)
