use Rattle.std.proofs.Common.{◌≡◌, ◌++◌, map, take}
use Rattle.opt_simplex.proofs.variables.push_row_lows.Given as goal

abbrev pub invariant-loop-i : goal.invariant-loop-i
invariant-loop-i l = l.lows.items ≡ l.initial.lows.items ++ map (λ row. row.right_hand_side) (take l.i l.system.rows)
