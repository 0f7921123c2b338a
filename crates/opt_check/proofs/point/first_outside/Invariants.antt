use Rattle.std.proofs.Common.{◌≡◌, ◌<◌, ℕ}
use Rattle.opt_tree.specs.Shown.{first_outside}
use Rattle.opt_check.specs.Points.{IsInside}
use Rattle.opt_check.proofs.PointSteps.{outside_after}
use Rattle.opt_check.proofs.point.first_outside.Given as goal

abbrev pub invariant-loop-j : goal.invariant-loop-j
invariant-loop-j l = (first_outside l.range l.x ≡ outside_after l.j l.range l.x) × ((k : ℕ) → k < l.j → IsInside l.range l.x k)
