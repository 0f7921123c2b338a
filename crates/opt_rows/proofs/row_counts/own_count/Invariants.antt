-- the quantities so far
use Rattle.std.proofs.Common.{◌≡◌, ◌*◌, ◌≤◌, take, count_by}
use Rattle.opt_rows.specs.Counting.{has_two_rows}
use Rattle.opt_rows.proofs.row_counts.own_count.Given as goal

abbrev pub invariant-loop-i : goal.invariant-loop-i
invariant-loop-i l = (l.count ≡ 2 * count_by has_two_rows (take l.i l.layout.quantities)) × (l.count ≤ 2 * l.i)
