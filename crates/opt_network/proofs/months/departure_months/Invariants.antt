-- the months so far
use Rattle.std.proofs.Common.{◌≡◌, ◌≤◌}
use Rattle.opt_network.specs.Counts.{month_count, arrives}
use Rattle.opt_network.proofs.months.departure_months.Given as goal

abbrev pub invariant-loop-earlier : goal.invariant-loop-earlier
invariant-loop-earlier l = (l.count ≡ month_count l.earlier (arrives l.months l.arc)) × (l.count ≤ l.earlier)
