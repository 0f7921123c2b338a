-- the places so far
use Rattle.std.proofs.Common.{◌≡◌, ◌*◌, ◌≤◌, take}
use Rattle.opt_model.specs.declared.limits.TheConstants.{MONTH_LIMIT}
use Rattle.opt_network.specs.Counts.{fed_months, sum_numbered}
use Rattle.opt_network.proofs.counts.fed_count.Given as goal

abbrev pub invariant-loop-number : goal.invariant-loop-number
invariant-loop-number l = (l.count ≡ sum_numbered (take l.number l.tables.places) (fed_months l.tables)) × (l.count ≤ MONTH_LIMIT * l.number)
