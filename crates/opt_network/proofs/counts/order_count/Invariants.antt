-- the records so far
use Rattle.std.proofs.Common.{◌≡◌, ◌*◌, ◌≤◌, take, sum_by}
use Rattle.opt_model.specs.declared.limits.TheConstants.{MONTH_LIMIT}
use Rattle.opt_network.specs.Counts.{ordered_months}
use Rattle.opt_network.proofs.counts.order_count.Given as goal

abbrev pub invariant-loop-offer : goal.invariant-loop-offer
invariant-loop-offer l = (l.count ≡ sum_by (ordered_months l.tables) (take l.offer-index l.tables.offers)) × (l.count ≤ MONTH_LIMIT * l.offer-index)
