use Rattle.std.proofs.Common.{◌≡◌, ap, sym, ◌∙◌, drop, arith}
use Rattle.opt_frac.specs.Divisors.{gcd_with}
use Rattle.opt_frac.proofs.DivisorLemmas.{gcd_with-one}
use Rattle.opt_frac.proofs.divisor.common_divisor.Goals as goal

pub returns-then-divisor-eq1 : goal.returns-then-divisor-eq1
returns-then-divisor-eq1 c =
    let one : c.loop-term.divisor ≡ 1 = omega arith in
    sym (gcd_with-one (drop c.loop-term.term-index c.args.terms.now))
    ∙ ap (λ d. gcd_with d (drop c.loop-term.term-index c.args.terms.now)) (sym one)
    ∙ c.loop-term.invariant
