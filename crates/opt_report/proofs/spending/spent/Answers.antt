use Rattle.std.proofs.Common.{◌≡◌, ◌<◌, ◌≤◌, ◌+ℤ◌, length, take_all, to_z, of_z, ap, ◌∙◌, arith}
use Rattle.std.proofs.lemmas.Int.{ints}
use mir.Syntax.{w128}
use Rattle.opt_model.specs.Quantities.{sum_over}
use Rattle.opt_network.specs.Numbering.{Numbering}
use Rattle.opt_report.specs.PointPlans.{plan_with}
use Rattle.opt_report.specs.Spending.{spent_on}
use Rattle.opt_report.proofs.Sums.{spent_more}
use Rattle.opt_report.proofs.spending.spent.Goals as goal

pub loop-i-preserved : goal.loop-i-preserved
loop-i-preserved c =
    let f = spent_on c.args.tables.now (plan_with c.args.plan.now) c.args.part c.args.month in
    let within : c.loop-i.i < length c.args.layout.now.quantities = omega (arith, c.loop-i-test.true, c.len-i-end.ensures.value) in
    let step : to_z w128 (of_z w128 (to_z w128 c.loop-i.sum-bits +ℤ to_z w128 (of_z w128 c.spent_on-sum.result))) ≡ to_z w128 c.loop-i.sum-bits +ℤ c.spent_on-sum.result =
    omega (arith, ints, within, c.len-i-end.ensures.numbering.few, c.loop-i.invariant.small, c.spent_on-sum.ensures.small) in
    record {
      sum = step ∙ spent_more f c.args.layout.now.quantities c.loop-i.i c.quantity.result (to_z w128 c.loop-i.sum-bits) c.spent_on-sum.result c.quantity.ensures.value c.loop-i.invariant.sum c.spent_on-sum.ensures.value;
      small = omega (arith, ints, step, c.loop-i.invariant.small, c.spent_on-sum.ensures.small);
    }

pub returns-clause-value : goal.returns-clause-value
returns-clause-value c =
    let qs = c.args.layout.now.quantities in
    let f = spent_on c.args.tables.now (plan_with c.args.plan.now) c.args.part c.args.month in
    let past : length qs ≤ c.loop-i.i = omega (arith, c.loop-i-test.false, c.len-i-end.ensures.value) in
    c.loop-i.invariant.sum ∙ (ap (λ xs. sum_over xs f) (take_all c.loop-i.i qs past) ∙ ap (λ (l : Numbering). sum_over l.quantities f) c.requires.same)
