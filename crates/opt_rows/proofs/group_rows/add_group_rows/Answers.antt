use Rattle.std.proofs.Common.{◌<◌, length, arith}
use Rattle.opt_model.specs.Quantities.{over, over_months}
use Rattle.opt_rows.specs.Parts.{group_pair}
use Rattle.opt_rows.proofs.RowSteps.{number_rows}
use Rattle.opt_rows.proofs.group_rows.add_group_rows.Goals as goal

pub loop-basket-preserved : goal.loop-basket-preserved
loop-basket-preserved c =
    let t = c.args.tables.now in
    let within : c.loop-basket.basket < length t.baskets = omega (arith, c.loop-basket-test.true, c.basket_count-basket-end.ensures) in
    number_rows c.args.layout.now.quantities _ _ _ (λ b. over t.groups λ g group. over_months t (group_pair t b g group)) t.baskets _ within c.loop-basket.invariant c.in_ok-add_basket.ensures
