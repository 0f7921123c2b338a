use Rattle.std.proofs.Common.{◌<◌, length, ap, arith}
use Rattle.opt_model.specs.Quantities.{over_months}
use Rattle.opt_rows.specs.Parts.{nutrient_row}
use Rattle.opt_rows.proofs.CostSizes.{at_there}
use Rattle.opt_rows.proofs.RowSteps.{read_at, record_rows}
use Rattle.opt_tables.specs.Facts.{IsNeed, IsNeedIn}
use Rattle.opt_rows.proofs.nutrient_rows.add_nutrient_rows.Goals as goal

pub loop-number-preserved : goal.loop-number-preserved
loop-number-preserved c =
    let t = c.args.tables.now in
    let e = c.needs-need-items.ensures in
    let within : c.loop-number.number < length t.needs = omega (arith, ap length e, c.loop-number-test.true) in
    record_rows c.args.layout.now.quantities _ _ _ (λ d need. over_months t (nutrient_row t d need)) t.needs _ _ within
    (read_at c.needs-need-items.result.now t.needs c.loop-number.number _ e within)
    c.loop-number.invariant c.in_ok-add_need.ensures

pub add_need-requires-clause-need : goal.add_need-requires-clause-need
add_need-requires-clause-need c =
    let t = c.args.tables.now in
    let e = c.needs-need-items.ensures in
    let within : c.loop-number.number < length t.needs = omega (arith, ap length e, c.loop-number-test.true) in
    at_there IsNeed t.needs c.loop-number.number _ (record { within = within; is = read_at c.needs-need-items.result.now t.needs c.loop-number.number _ e within })
    c.settings-settings.ensures.model.needs

pub add_need-requires-clause-nutrient : goal.add_need-requires-clause-nutrient
add_need-requires-clause-nutrient c =
    let t = c.args.tables.now in
    let e = c.needs-need-items.ensures in
    let within : c.loop-number.number < length t.needs = omega (arith, ap length e, c.loop-number-test.true) in
    (at_there (IsNeedIn t) t.needs c.loop-number.number _ (record { within = within; is = read_at c.needs-need-items.result.now t.needs c.loop-number.number _ e within })
    c.settings-settings.ensures.model.needs_in).nutrient
