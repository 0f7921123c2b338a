use Rattle.std.proofs.Common.{◌≡◌, ◌<◌, ◌≤◌, ◌^◌, length, unsigned_abs, FitsSigned, ap, sym, ◌∙◌, arith}
use Rattle.std.proofs.lemmas.Int.{ints, to_z-of_z}
use Rattle.std.proofs.lemmas.List.{with_items_is}
use mir.Syntax.{w128}
use Rattle.opt_frac.specs.Divisors.{quotients, gcd_with}
use Rattle.opt_frac.proofs.DivisorLemmas.{gcd_with_pos, gcd_with_le, quotients-one}
use Rattle.opt_frac.proofs.elimination.reduce.Goals as goal
use Rattle.opt_frac.proofs.elimination.reduce.Goals.{After-common_divisor-divisor, then-divisor-gt1, else-divisor-gt1}

divisor : (c : After-common_divisor-divisor) → c.common_divisor-divisor.result ≡ gcd_with (unsigned_abs c.args.lead) c.args.terms.now.items
divisor c =
    let lead : FitsSigned w128 c.args.lead = c.ranges.lead in
    let size : c.unsigned_abs.result ≡ unsigned_abs c.args.lead = rw (to_z-of_z w128 c.args.lead lead) at c.unsigned_abs.ensures.value in
    c.common_divisor-divisor.ensures
    ∙ ap (λ n. gcd_with n c.deref.result.now) size
    ∙ ap (gcd_with (unsigned_abs c.args.lead)) c.deref.ensures.value

above : (c : After-common_divisor-divisor) → 0 < unsigned_abs c.args.lead
above c = omega (arith, ints, c.requires.positive)

positive : (c : After-common_divisor-divisor) → 1 ≤ c.common_divisor-divisor.result
positive c = rw (divisor c) (gcd_with_pos (unsigned_abs c.args.lead) c.args.terms.now.items (above c))

fitting : (c : After-common_divisor-divisor) → c.common_divisor-divisor.result < 2 ^ 127
fitting c =
    rw (divisor c)
    (omega (arith, c.requires.fitting, gcd_with_le (unsigned_abs c.args.lead) c.args.terms.now.items (above c)))

pub divide-requires-clause-fitting : goal.divide-requires-clause-fitting
divide-requires-clause-fitting c = fitting (goal.at.divide-requires-clause-fitting c).After-common_divisor-divisor

pub quotient-requires-clause-positive : goal.quotient-requires-clause-positive
quotient-requires-clause-positive c = positive (goal.at.quotient-requires-clause-positive c).After-common_divisor-divisor

pub quotient-requires-clause-fitting : goal.quotient-requires-clause-fitting
quotient-requires-clause-fitting c = fitting (goal.at.quotient-requires-clause-fitting c).After-common_divisor-divisor

pub returns-clause-lead : goal.returns-clause-lead
returns-clause-lead c =
    let lead : FitsSigned w128 c.args.lead = c.ranges.lead in
    rw (to_z-of_z w128 c.quotient.result (record { sfits = c.quotient.type_inv }))
    (rw (to_z-of_z w128 c.args.lead lead, divisor (goal.at.returns-clause-lead c).After-common_divisor-divisor) at c.quotient.ensures)

pub returns-clause-terms : goal.returns-clause-terms
returns-clause-terms c =
    let first = (goal.at.returns-clause-terms c).After-common_divisor-divisor in
    elim c.if-divisor-gt1.branch [
      | then-divisor-gt1 w ↦
          rw (w.terms-is, ← divisor first)
          (with_items_is c.args.terms.now w.divide.new.terms (omega (arith, w.divide.auto.terms, ap length w.deref_mut.ensures.value, c.args.terms.now.ok.0))
          ∙ w.divide.ensures
          ∙ ap (quotients c.common_divisor-divisor.result) w.deref_mut.ensures.value)
      | else-divisor-gt1 w ↦
          let one : c.common_divisor-divisor.result ≡ 1 = omega (arith, positive first, w.if-divisor-gt1.false) in
          rw (w.terms-is, ← divisor first, one) (sym (quotients-one c.args.terms.now.items))
    ]
