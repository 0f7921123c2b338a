use Rattle.std.proofs.Common.{◌≡◌, ◌+◌, ◌*◌, ◌^◌, ◌≤◌, ◌+ℤ◌, unsigned_abs}
use Rattle.opt_sums.specs.Sums.{sum_to}
use Rattle.opt_bound.specs.Bound.{right_hand_side_of, least_of}
use Rattle.opt_bound.proofs.lower.bound.Given as goal

abbrev pub invariant-loop-j : goal.invariant-loop-j
invariant-loop-j l =
    (l.sum ≡ right_hand_side_of l.system l.mult +ℤ sum_to l.j (least_of l.system l.range l.mult)) × (unsigned_abs l.sum ≤ 2 ^ 120 + 2 ^ 107 * 282144)
