use Rattle.std.proofs.Common.{◌≡◌, ap, sym, ◌∙◌, arith}
use Rattle.opt_frac.specs.Divisors.{gcd}
use Rattle.opt_frac.proofs.DivisorLemmas.{gcd-mod, gcd-zero}
use Rattle.opt_frac.proofs.divisor.gcd.Goals as goal

pub loop-y-preserved : goal.loop-y-preserved
loop-y-preserved c = gcd-mod c.loop-y.x c.loop-y.y (omega arith) ∙ c.loop-y.invariant

pub returns-then-y-eq0 : goal.returns-then-y-eq0
returns-then-y-eq0 c =
    let ended : c.loop-y.y ≡ 0 = omega arith in
    sym (ap (gcd c.loop-y.x) ended ∙ gcd-zero c.loop-y.x) ∙ c.loop-y.invariant

pub returns : goal.returns
returns c =
    rw (c.from-3.ensures, c.short_gcd-2.ensures) (gcd-mod c.loop-y.x c.loop-y.y (omega arith) ∙ c.loop-y.invariant)
