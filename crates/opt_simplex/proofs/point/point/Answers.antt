use Rattle.std.proofs.Common.{[], pos, All, sym, subst, ◌∙◌, arith}
use Rattle.opt_simplex.specs.Variables.{resting}
use Rattle.opt_simplex.specs.Kept.{IsFraction}
use Rattle.opt_simplex.proofs.RawLemmas.{point-is}
use Rattle.opt_simplex.proofs.PointSteps.{point_of-back, point_of-whole}
use Rattle.opt_simplex.proofs.point.point.Goals as goal

pub loop-i-preserved : goal.loop-i-preserved
loop-i-preserved c =
    record {
      within = omega (arith, c.loop-i.invariant.within);
      made =
          c.put.ensures
          ∙ point_of-back c.args.variables.now.quantities (resting c.args.variables.now c.args.at_high.now) c.args.equations.now c.args.values.now c.loop-i.i c.loop-i.point.items c.index-equations-i.result c.loop-i-test.true c.loop-i.invariant.within c.requires.each c.index-equations-i.is c.loop-i.invariant.made;
    }

pub new-requires : goal.new-requires
new-requires c =
    subst (All IsFraction)
    (sym (point_of-whole c.args.variables.now.quantities (resting c.args.variables.now c.args.at_high.now) c.args.equations.now c.args.values.now c.loop-i.i c.loop-i.point.items c.loop-i-test.false c.loop-i.invariant.made))
    (point-is c.args.variables.now.quantities (resting c.args.variables.now c.args.at_high.now) c.args.equations.now c.args.values.now c.in_ok-point.ensures.fit
    (λ i h. (c.requires.among i (record { basic = 0; lead = pos 1; terms = [] }) h).lead) (λ i h. c.requires.fit i (pos 0) h))
