use Rattle.std.proofs.Common.{◌≡◌, ◌<◌, ◌+ℤ◌, length, get_or, to_z, of_z, ap, ◌∙◌, arith}
use Rattle.std.proofs.lemmas.Int.{ints}
use mir.Syntax.{w128}
use Rattle.opt_report.specs.PointPlans.{plan_with}
use Rattle.opt_report.specs.Sites.{offer_terms}
use Rattle.opt_report.proofs.TermSums.{sum_more}
use Rattle.opt_report.proofs.figures.bought.Goals as goal

pub loop-number-preserved : goal.loop-number-preserved
loop-number-preserved c =
    let records = c.args.tables.now.offers in
    let site = c.args.site in
    let number = c.loop-number.number in
    let r = c.index-offers-number.result in
    let lt : number < length records = omega (arith, ap length c.offers-number-end.ensures, c.loop-number-test.true) in
    let is : r ≡ get_or records number r = c.index-offers-number.is ∙ ap (λ rs. get_or rs number r) c.offers.ensures in
    let step : to_z w128 (of_z w128 (to_z w128 c.loop-number.sum-bits +ℤ to_z w128 (of_z w128 c.from-sum.result))) ≡ to_z w128 c.loop-number.sum-bits +ℤ c.bought_of.result =
    omega (arith, ints, c.loop-number.invariant.low, c.loop-number.invariant.high, c.bought_of.ensures.small.above, c.bought_of.ensures.small.below, c.from-sum.ensures) in
    record {
      sum = step
          ∙ sum_more (offer_terms site.place site.commodity site.month) (plan_with c.args.plan.now) records number r (to_z w128 c.loop-number.sum-bits) c.bought_of.result lt is
          c.loop-number.invariant.sum c.bought_of.ensures.value;
      low = omega (arith, ints, step, c.loop-number.invariant.low, c.bought_of.ensures.small.above);
      high = omega (arith, ints, step, c.loop-number.invariant.high, c.bought_of.ensures.small.below);
    }
