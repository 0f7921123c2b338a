use Rattle.std.proofs.Common.{to_z, of_z, FitsSigned, ap, ◌∙◌, arith}
use Rattle.std.proofs.lemmas.Int.{ints, to_z-of_z}
use mir.Syntax.{w64, w128}
use Rattle.opt_sums.specs.Sums.{at}
use Rattle.opt_dive.proofs.FixLemmas.{fix_up-value}
use Rattle.opt_dive.proofs.fixing.fix_up.Goals as goal

pub bring_within-value-requires : goal.bring_within-value-requires
bring_within-value-requires c =
    omega (arith, ints, ap (λ l. at l c.args.j) c.low.ensures.value, ap (λ l. at l c.args.j) c.high.ensures.value, c.low.ensures.ordered.rising c.args.j c.requires.quantity)

pub fix-requires-clause-from_low : goal.fix-requires-clause-from_low
fix-requires-clause-from_low c =
    omega (arith, ints, ap (λ l. at l c.args.j) c.low.ensures.value, c.bring_within-value.ensures.from_low)

pub fix-requires-clause-to_high : goal.fix-requires-clause-to_high
fix-requires-clause-to_high c =
    omega (arith, ints, ap (λ l. at l c.args.j) c.high.ensures.value, c.bring_within-value.ensures.to_high)

pub returns-clause-value : goal.returns-clause-value
returns-clause-value c =
    let fits : FitsSigned w128 c.ceiling.result = record { sfits = c.ceiling.type_inv } in
    fix_up-value c.args.point.now c.args.range.now c.fix.new.range c.args.j c.bring_within-value.result _ (to_z w64 (of_z w64 (at c.low.result.now c.args.j))) (to_z w64 (of_z w64 (at c.high.result.now c.args.j)))
    (to_z w128 (of_z w128 c.ceiling.result)) c.fix.ensures.value
    (omega (arith, ints))
    c.bring_within-value.ensures.value
    (omega (arith, ints, ap (λ l. at l c.args.j) c.low.ensures.value))
    (omega (arith, ints, ap (λ l. at l c.args.j) c.high.ensures.value))
    (to_z-of_z w128 c.ceiling.result fits ∙ c.ceiling.ensures.value)
