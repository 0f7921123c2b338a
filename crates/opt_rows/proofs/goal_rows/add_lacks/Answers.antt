use Rattle.std.proofs.Common.{◌<◌, ◌∷◌, [], length, ap, arith}
use Rattle.opt_model.specs.Quantities.{over_months}
use Rattle.opt_model.specs.declared.quantity.Quantity.TheVariants.{Short}
use Rattle.opt_rows.proofs.RowSteps.{read_at, record_terms}
use Rattle.opt_rows.proofs.goal_rows.add_lacks.Goals as goal

pub loop-number-preserved : goal.loop-number-preserved
loop-number-preserved c =
    let e = c.needs-need-items.ensures in
    let within : c.loop-number.number < length c.args.tables.now.needs = omega (arith, ap length e, c.loop-number-test.true) in
    record_terms c.args.layout.now.quantities _ _ _ (λ d x. over_months c.args.tables.now λ m. (Short d m, x.weight) ∷ []) c.args.tables.now.needs _ _ within
    (read_at c.needs-need-items.result.now c.args.tables.now.needs c.loop-number.number _ e within)
    c.loop-number.invariant c.in_ok-add_lack.ensures
