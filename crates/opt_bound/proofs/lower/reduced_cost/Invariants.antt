use Rattle.std.proofs.Common.{◌≡◌, take, ◌-ℤ◌, ◌*ℤ◌}
use Rattle.opt_sums.specs.Sums.{at}
use Rattle.opt_sums.specs.Entries.{coef, weighted_sum}
use Rattle.opt_bound.proofs.lower.reduced_cost.Given as goal

abbrev pub invariant-loop-term : goal.invariant-loop-term
invariant-loop-term l = l.reduced_cost ≡ (l.mult.q *ℤ at l.system.cost l.j) -ℤ weighted_sum (take l.term-index l.term-items) (coef l.mult.entries)
