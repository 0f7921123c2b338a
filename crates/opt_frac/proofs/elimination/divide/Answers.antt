use Rattle.std.proofs.Common.{◌≡◌, ◌<◌, length, get_or, pos, int_div, FitsSigned, ap, ◌∙◌, arith}
use Rattle.std.proofs.lemmas.Int.{ints, to_z-of_z}
use mir.Syntax.{w128}
use Rattle.opt_frac.proofs.DivisorLemmas.{divided_more}
use Rattle.opt_frac.proofs.elimination.divide.Goals as goal

pub loop-i-preserved : goal.loop-i-preserved
loop-i-preserved c =
    let fits : FitsSigned w128 c.quotient.result = record { sfits = c.quotient.type_inv } in
    let value : c.quotient.result ≡ int_div (get_or c.loop-i.terms c.loop-i.i (0, pos 0)).1 (pos c.args.divisor) =
    c.quotient.ensures ∙ ap (λ z. int_div z (pos c.args.divisor)) (omega (arith, ints))
    in
    let in_old : c.loop-i.i < length c.args.terms.now = omega arith in
    let in_now : c.loop-i.i < length c.loop-i.terms = omega arith in
    rw (to_z-of_z w128 c.quotient.result fits)
    (divided_more c.args.divisor c.args.terms.now c.loop-i.terms c.loop-i.i c.quotient.result in_old in_now value c.loop-i.invariant)
