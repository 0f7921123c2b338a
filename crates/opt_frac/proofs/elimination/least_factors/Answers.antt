use Rattle.std.proofs.Common.{◌≡◌, ◌<◌, ◌≤◌, ◌^◌, int_div, pos, unsigned_abs, FitsSigned, ap, ◌∙◌, arith}
use Rattle.std.proofs.lemmas.Int.{ints, to_z-of_z}
use mir.Syntax.{w128}
use Rattle.opt_frac.specs.Divisors.{gcd}
use Rattle.opt_frac.proofs.DivisorLemmas.{gcd_pos, gcd_le, positive_quotient}
use Rattle.opt_frac.proofs.elimination.least_factors.Goals as goal
use Rattle.opt_frac.proofs.elimination.least_factors.Goals.{After-gcd-divisor}

size : (c : After-gcd-divisor) → c.unsigned_abs.result ≡ unsigned_abs c.args.lead
size c =
    let lead : FitsSigned w128 c.args.lead = c.ranges.lead in
    rw (to_z-of_z w128 c.args.lead lead) at c.unsigned_abs.ensures.value

above : (c : After-gcd-divisor) → 0 < c.unsigned_abs.result
above c = omega (arith, ints, size c, c.requires.positive)

positive : (c : After-gcd-divisor) → 1 ≤ c.gcd-divisor.result
positive c = rw c.gcd-divisor.ensures (gcd_pos c.unsigned_abs.result c.unsigned_abs-2.result (above c))

fitting : (c : After-gcd-divisor) → c.gcd-divisor.result < 2 ^ 127
fitting c =
    rw c.gcd-divisor.ensures
    (omega (arith, size c, c.requires.fitting, gcd_le c.unsigned_abs.result c.unsigned_abs-2.result (above c)))

pub quotient-requires-clause-positive : goal.quotient-requires-clause-positive
quotient-requires-clause-positive c = positive c

pub quotient-requires-clause-fitting : goal.quotient-requires-clause-fitting
quotient-requires-clause-fitting c = fitting c

pub quotient-requires-2-clause-positive : goal.quotient-requires-2-clause-positive
quotient-requires-2-clause-positive c = positive (goal.at.quotient-requires-2-clause-positive c).After-gcd-divisor

pub quotient-requires-2-clause-fitting : goal.quotient-requires-2-clause-fitting
quotient-requires-2-clause-fitting c = fitting (goal.at.quotient-requires-2-clause-fitting c).After-gcd-divisor

pub returns-clause-positive : goal.returns-clause-positive
returns-clause-positive c =
    let first = (goal.at.returns-clause-positive c).After-gcd-divisor in
    let lead : FitsSigned w128 c.args.lead = c.ranges.lead in
    let own : c.quotient.result ≡ int_div c.args.lead (pos (gcd (unsigned_abs c.args.lead) c.unsigned_abs-2.result)) =
    rw (to_z-of_z w128 c.args.lead lead) at c.quotient.ensures
    ∙ ap (λ d. int_div c.args.lead (pos d)) (c.gcd-divisor.ensures ∙ ap (λ n. gcd n c.unsigned_abs-2.result) (size first))
    in
    rw (to_z-of_z w128 c.quotient.result (record { sfits = c.quotient.type_inv }), own) (positive_quotient c.args.lead c.unsigned_abs-2.result c.requires.positive)
