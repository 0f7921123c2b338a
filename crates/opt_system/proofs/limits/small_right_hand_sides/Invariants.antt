use Rattle.std.proofs.Common.{◌≡◌, ◌*◌, ◌^◌, ◌≤◌, take, sum_by, unsigned_abs}
use Rattle.opt_system.specs.declared.rows.Row.{Row}
use Rattle.opt_system.proofs.limits.small_right_hand_sides.Given as goal

abbrev pub invariant-loop-row : goal.invariant-loop-row
invariant-loop-row l = (l.sum ≡ sum_by (λ (row : Row). unsigned_abs row.right_hand_side) (take l.row-index l.rows)) × (l.sum ≤ 2 ^ 63 * l.row-index)
