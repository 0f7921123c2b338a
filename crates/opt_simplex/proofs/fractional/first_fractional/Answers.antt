use Rattle.std.proofs.Common.{◌≡◌, false, pos, ap, sym, ◌∙◌, arith}
use Rattle.std.proofs.lemmas.List.{get_or_default}
use borrow.Author.Count.{below_more}
use Rattle.opt_simplex.specs.Soundness.{fraction_at}
use Rattle.opt_simplex.specs.Guide.{is_fractional}
use Rattle.opt_simplex.proofs.FloorLemmas.{first_fractional-some, first_fractional-none}
use Rattle.opt_simplex.proofs.fractional.first_fractional.Goals as goal

pub returns-then-is_fractional-clause-value : goal.returns-then-is_fractional-clause-value
returns-then-is_fractional-clause-value c =
    sym
    (first_fractional-some c.args.fractions.now c.loop-j.j c.loop-j-test.true c.loop-j.invariant
    (ap is_fractional (get_or_default c.args.fractions.now c.loop-j.j (pos 0, pos 1) (pos 0, pos 0) c.loop-j-test.true) ∙ sym c.is_fractional.ensures ∙ c.if-is_fractional.true))

pub loop-j-preserved : goal.loop-j-preserved
loop-j-preserved c =
    below_more (λ k. is_fractional (fraction_at c.args.fractions.now k) ≡ false) c.loop-j.j c.loop-j.invariant
    (ap is_fractional (get_or_default c.args.fractions.now c.loop-j.j (pos 0, pos 1) (pos 0, pos 0) c.loop-j-test.true) ∙ sym c.is_fractional.ensures ∙ c.if-is_fractional.false)

pub returns-clause-value : goal.returns-clause-value
returns-clause-value c =
    sym (first_fractional-none c.args.fractions.now (λ k h. c.loop-j.invariant k (omega (arith, h, c.loop-j.auto.j-end, c.loop-j-test.false))))
