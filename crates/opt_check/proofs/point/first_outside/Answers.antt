use Rattle.std.proofs.Common.{◌∙◌, sym, refl, arith, below_more}
use Rattle.opt_check.specs.Points.{IsInside}
use Rattle.opt_check.proofs.PointSteps.{outside_later, outside_here, outside_end}
use Rattle.opt_check.proofs.point.first_outside.Goals as goal

pub loop-j-init : goal.loop-j-init
loop-j-init c = (refl, λ k below. absurd (omega arith))

pub returns-then-not-is_inside-clause-first : goal.returns-then-not-is_inside-clause-first
returns-then-not-is_inside-clause-first c =
    sym
    (c.loop-j.invariant.0
    ∙ outside_here c.loop-j.j c.args.range.now c.args.x.now c.loop-j-test.true c.requires.each c.is_inside.ensures.ordered (λ inside. let t = c.is_inside.ensures.inside.1 inside in let f = c.if-not-is_inside.true in cc))

pub loop-j-preserved : goal.loop-j-preserved
loop-j-preserved c = (
  c.loop-j.invariant.0
      ∙ outside_later c.loop-j.j c.args.range.now c.args.x.now c.loop-j-test.true c.requires.each c.is_inside.ensures.ordered (c.is_inside.ensures.inside.0 c.if-not-is_inside.false),
  below_more (IsInside c.args.range.now c.args.x.now) c.loop-j.j c.loop-j.invariant.1 (c.is_inside.ensures.inside.0 c.if-not-is_inside.false),
)

pub returns-clause-first : goal.returns-clause-first
returns-clause-first c = sym (c.loop-j.invariant.0 ∙ outside_end c.loop-j.j c.args.range.now c.args.x.now c.loop-j-test.false)

pub returns-clause-within : goal.returns-clause-within
returns-clause-within c = record {
  same_length = c.requires.each;
  above = λ j h. (c.loop-j.invariant.1 j (omega (arith, c.loop-j-test.false))).above;
  below = λ j h. (c.loop-j.invariant.1 j (omega (arith, c.loop-j-test.false))).below;
}
