-- the records so far
use Rattle.std.proofs.Common.{◌≡◌, ◌*◌, ◌≤◌, take, sum_by}
use Rattle.opt_model.specs.declared.limits.TheConstants.{MONTH_LIMIT}
use Rattle.opt_network.specs.Counts.{departure_months}
use Rattle.opt_rows.proofs.row_counts.arc_count.Given as goal

abbrev pub invariant-loop-arc : goal.invariant-loop-arc
invariant-loop-arc l = (l.count ≡ sum_by (departure_months l.tables) (take l.arc-index l.tables.arcs)) × (l.count ≤ MONTH_LIMIT * l.arc-index)
