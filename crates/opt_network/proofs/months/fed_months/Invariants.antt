-- the months so far
use Rattle.std.proofs.Common.{◌≡◌, ◌≤◌}
use Rattle.opt_network.specs.Counts.{month_count, is_fed}
use Rattle.opt_network.proofs.months.fed_months.Given as goal

abbrev pub invariant-loop-earlier : goal.invariant-loop-earlier
invariant-loop-earlier l = (l.count ≡ month_count l.earlier (is_fed l.tables l.number l.place.kind)) × (l.count ≤ l.earlier)
