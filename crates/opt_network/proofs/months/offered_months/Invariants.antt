-- the months so far
use Rattle.std.proofs.Common.{◌≡◌, ◌≤◌}
use Rattle.opt_model.specs.Quantities.{is_offered}
use Rattle.opt_network.specs.Counts.{month_count}
use Rattle.opt_network.proofs.months.offered_months.Given as goal

abbrev pub invariant-loop-earlier : goal.invariant-loop-earlier
invariant-loop-earlier l = (l.count ≡ month_count l.earlier (is_offered l.offer)) × (l.count ≤ l.earlier)
