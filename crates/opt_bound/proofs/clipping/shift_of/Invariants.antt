use Rattle.std.proofs.Common.{ℕ, ◌/◌, ◌^◌, ◌<◌}
use Rattle.opt_bound.proofs.clipping.shift_of.Given as goal

abbrev pub invariant-loop-shift : goal.invariant-loop-shift
invariant-loop-shift l = (t : ℕ) → t < l.shift → 2 ^ 56 < l.size / 2 ^ t
