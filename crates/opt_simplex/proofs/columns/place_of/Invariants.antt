use Rattle.std.proofs.Common.{◌≤◌, All, take}
use Rattle.opt_simplex.proofs.columns.place_of.Given as goal

abbrev pub invariant-loop-i : goal.invariant-loop-i
invariant-loop-i l = All (λ q. q ≤ l.position) (take l.i l.positions)
