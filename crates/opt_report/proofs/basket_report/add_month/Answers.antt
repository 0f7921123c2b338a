use Rattle.std.proofs.Common.{◌<◌, length, ap, arith}
use Rattle.opt_network.proofs.RecordLists.{number_step}
use Rattle.opt_report.specs.PointPlans.{plan_with}
use Rattle.opt_report.specs.Rations.{monthly_records}
use Rattle.opt_report.proofs.BasketTexts.{rations_and_shorts}
use Rattle.opt_report.proofs.basket_report.add_month.Goals as goal

pub loop-basket-preserved : goal.loop-basket-preserved
loop-basket-preserved c =
    let t = c.args.tables.now in
    let plan = plan_with c.args.plan.now in
    let basket = c.loop-basket.basket in
    let within : basket < length t.baskets = omega (arith, ap length c.baskets-basket-end.ensures, c.loop-basket-test.true) in
    number_step c.args.text.now.items c.loop-basket.text.items c.add_shorts.new.text.items (monthly_records t plan c.args.month) t.baskets basket within c.loop-basket.invariant
    (rations_and_shorts t plan c.args.month basket c.loop-basket.text.items c.add_rations.new.text.items c.add_shorts.new.text.items c.in_ok-add_rations.ensures c.in_ok-add_shorts.ensures)
