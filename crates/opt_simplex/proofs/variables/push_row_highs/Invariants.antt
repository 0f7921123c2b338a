use Rattle.std.proofs.Common.{◌≡◌, ◌++◌, map, take}
use Rattle.opt_simplex.specs.Variables.{row_high}
use Rattle.opt_simplex.proofs.variables.push_row_highs.Given as goal

abbrev pub invariant-loop-i : goal.invariant-loop-i
invariant-loop-i l = l.highs.items ≡ l.initial.highs.items ++ map (λ row. row_high row.kind row.right_hand_side) (take l.i l.system.rows)
