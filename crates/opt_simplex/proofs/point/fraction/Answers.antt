use Rattle.std.proofs.Common.{◌≡◌, ◌<◌, ◌≤◌, ◌^◌, unsigned_abs, FitsSigned, arith}
use Rattle.std.proofs.lemmas.Int.{ints, to_z-of_z}
use mir.Syntax.{w128}
use Rattle.opt_simplex.proofs.PointSteps.{gcd-later}
use Rattle.opt_simplex.proofs.point.fraction.Goals as goal
use Rattle.opt_simplex.proofs.point.fraction.Goals.{After-gcd-divisor}

size : (c : After-gcd-divisor) → c.unsigned_abs-2.result ≡ unsigned_abs c.args.denominator
size c =
    let denominator : FitsSigned w128 c.args.denominator = c.ranges.denominator in
    rw (to_z-of_z w128 c.args.denominator denominator) at c.unsigned_abs-2.ensures.value

above : (c : After-gcd-divisor) → 0 < c.unsigned_abs-2.result
above c = omega (arith, ints, size c, c.requires.positive)

positive : (c : After-gcd-divisor) → 1 ≤ c.gcd-divisor.result
positive c = rw c.gcd-divisor.ensures (gcd-later c.unsigned_abs.result c.unsigned_abs-2.result (above c)).0

fitting : (c : After-gcd-divisor) → c.gcd-divisor.result < 2 ^ 127
fitting c =
    rw c.gcd-divisor.ensures
    (omega (arith, size c, c.requires.fits, (gcd-later c.unsigned_abs.result c.unsigned_abs-2.result (above c)).1))

pub quotient-requires-clause-positive : goal.quotient-requires-clause-positive
quotient-requires-clause-positive c = positive c

pub quotient-requires-clause-fitting : goal.quotient-requires-clause-fitting
quotient-requires-clause-fitting c = fitting c

pub quotient-requires-2-clause-positive : goal.quotient-requires-2-clause-positive
quotient-requires-2-clause-positive c = positive (goal.at.quotient-requires-2-clause-positive c).After-gcd-divisor

pub quotient-requires-2-clause-fitting : goal.quotient-requires-2-clause-fitting
quotient-requires-2-clause-fitting c = fitting (goal.at.quotient-requires-2-clause-fitting c).After-gcd-divisor
