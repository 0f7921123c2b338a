use Rattle.std.proofs.Common.{◌≡◌, ℕ, ◌<◌, ◌≤◌, ◌-◌, length}
use Rattle.opt_sums.specs.Sums.{at}
use Rattle.opt_search.proofs.line.first_several.Given as goal

abbrev pub invariant-loop-j : goal.invariant-loop-j
invariant-loop-j l = (l.j ≤ length l.low) × ((k : ℕ) → k < l.j → at l.low k ≡ at l.high k)

abbrev pub decreases-loop-j : goal.decreases-loop-j
decreases-loop-j l = length l.initial.low - l.j
