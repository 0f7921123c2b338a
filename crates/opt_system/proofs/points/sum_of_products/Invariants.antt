use Rattle.std.proofs.Common.{◌≡◌, ◌*ℤ◌}
use Rattle.opt_sums.specs.Sums.{at, sum_to}
use Rattle.opt_system.proofs.points.sum_of_products.Given as goal

abbrev pub invariant-loop-j : goal.invariant-loop-j
invariant-loop-j l = l.sum ≡ sum_to l.j (λ j. at l.costs j *ℤ at l.x j)
