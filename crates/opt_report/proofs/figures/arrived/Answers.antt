use Rattle.std.proofs.Common.{◌≡◌, ◌<◌, ◌+ℤ◌, length, get_or, to_z, of_z, ap, ◌∙◌, arith}
use Rattle.std.proofs.lemmas.Int.{ints}
use mir.Syntax.{w128}
use Rattle.opt_report.specs.PointPlans.{plan_with}
use Rattle.opt_report.specs.Sites.{arriving_terms}
use Rattle.opt_report.proofs.TermSums.{sum_more}
use Rattle.opt_report.proofs.figures.arrived.Goals as goal

pub loop-number-preserved : goal.loop-number-preserved
loop-number-preserved c =
    let records = c.args.tables.now.arcs in
    let site = c.args.site in
    let number = c.loop-number.number in
    let r = c.index-arcs-number.result in
    let lt : number < length records = omega (arith, ap length c.arcs-number-end.ensures, c.loop-number-test.true) in
    let is : r ≡ get_or records number r = c.index-arcs-number.is ∙ ap (λ rs. get_or rs number r) c.arcs.ensures in
    let step : to_z w128 (of_z w128 (to_z w128 c.loop-number.sum-bits +ℤ to_z w128 (of_z w128 c.from-sum.result))) ≡ to_z w128 c.loop-number.sum-bits +ℤ c.arrived_of.result =
    omega (arith, ints, c.loop-number.invariant.low, c.loop-number.invariant.high, c.arrived_of.ensures.small.above, c.arrived_of.ensures.small.below, c.from-sum.ensures) in
    record {
      sum = step
          ∙ sum_more (arriving_terms site.place site.commodity site.month) (plan_with c.args.plan.now) records number r (to_z w128 c.loop-number.sum-bits) c.arrived_of.result lt is
          c.loop-number.invariant.sum c.arrived_of.ensures.value;
      low = omega (arith, ints, step, c.loop-number.invariant.low, c.arrived_of.ensures.small.above);
      high = omega (arith, ints, step, c.loop-number.invariant.high, c.arrived_of.ensures.small.below);
    }
