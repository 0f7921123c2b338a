use Rattle.std.proofs.Common.{◌≡◌, drop}
use Rattle.opt_frac.specs.Divisors.{gcd_with}
use Rattle.opt_frac.proofs.divisor.common_divisor.Given as goal

abbrev pub invariant-loop-term : goal.invariant-loop-term
invariant-loop-term l = gcd_with l.divisor (drop l.term-index l.terms) ≡ gcd_with l.number l.terms
