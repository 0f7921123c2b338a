use Rattle.std.proofs.Common.{◌≡◌, ℕ, ◌<◌, length, pos, ◌*ℤ◌, ◌≤ℤ◌}
use Rattle.opt_sums.specs.Sums.{at}
use Rattle.opt_guide.proofs.lie.wild_values.Given as goal

abbrev pub invariant-loop-high : goal.invariant-loop-high
invariant-loop-high l = (length l.values.items ≡ l.high-index)
    × ((j : ℕ) → j < l.high-index → pos 0 ≤ℤ at l.values.items j)
    × ((j : ℕ) → j < l.high-index → at l.values.items j ≤ℤ (pos 2 *ℤ at l.highs j))
