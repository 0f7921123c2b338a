use Rattle.std.proofs.Common.{◌≡◌, FitsSigned, refl, ap, rules}
use Rattle.std.proofs.lemmas.Int.{to_z-of_z}
use mir.Syntax.{w128}
use mir.Val.{to_z, of_z}
use Rattle.opt_frac.specs.Elimination.{multiple}
use Rattle.opt_frac.specs.Merging.{rest_of}
use Rattle.opt_frac.specs.Replacing.{other_factor, own_terms, other_terms}
use Rattle.opt_frac.proofs.ReducedLemmas.{without-apart}
use Rattle.opt_frac.proofs.equation.add_terms.Goals as goal
use Rattle.opt_frac.proofs.equation.add_terms.Goals.{After-add_multiples}

own : (c : After-add_multiples) → rest_of (to_z w128 (of_z w128 c.factors_for-factors.result.own)) c.basic.result c.terms.result.now 0 ≡ own_terms c.args.turned.now c.args.old.now
own c =
    let fits : FitsSigned w128 c.factors_for-factors.result.own = search rules in
    rw (to_z-of_z w128 c.factors_for-factors.result.own fits, c.factors_for-factors.ensures.own, c.basic.ensures.value, c.terms.ensures.value) refl

other : (c : After-add_multiples) → rest_of (to_z w128 (of_z w128 c.factors_for-factors.result.other)) c.basic.result c.terms-2.result.now 0 ≡ other_terms c.args.turned.now c.args.old.now
other c =
    let fits : FitsSigned w128 c.factors_for-factors.result.other = search rules in
    rw (to_z-of_z w128 c.factors_for-factors.result.other fits, c.factors_for-factors.ensures.other, c.basic.ensures.value, c.terms-2.ensures.value)
    (ap (multiple (other_factor c.args.turned.now c.args.old.now)) (without-apart c.args.turned.now.basic c.args.turned.now.terms c.basic.ensures.reduced.solved.apart))

pub returns : goal.returns
returns c = rw (own c, other c) at c.add_multiples.ensures
