use Rattle.std.proofs.Common.{◌≡◌, ◌<◌, ◌∷◌, ◌++◌, [], pos, neg_ℤ, length, get_or, arith}
use Rattle.opt_model.specs.Quantities.{over_months, list_if}
use Rattle.opt_model.specs.Rows.{at_least_row}
use Rattle.opt_model.specs.declared.quantity.Quantity.TheVariants.{Buy, Order}
use Rattle.opt_model.specs.declared.quantity.RowName.TheVariants as row
use Rattle.opt_network.specs.Counts.{is_ordered}
use Rattle.opt_rows.proofs.RowSteps.{offer_facts, record_rows}
use Rattle.opt_rows.proofs.lot_rows.add_lot_rows.Goals as goal

pub loop-number-preserved : goal.loop-number-preserved
loop-number-preserved c =
    let within : c.loop-number.number < length c.args.tables.now.offers = omega (arith, c.loop-number-test.true, c.offer_count-number-end.ensures) in
    let is : c.index-offers-number.result ≡ get_or c.args.tables.now.offers c.loop-number.number c.index-offers-number.result = rw c.offers-offers.ensures at c.index-offers-number.is in
    record_rows c.args.layout.now.quantities _ _ _
    (λ a x. over_months c.args.tables.now λ m. list_if (is_ordered x m)
    (at_least_row (row.LotLow a m) ((Buy a m, pos 1) ∷ (Order a m, neg_ℤ x.least) ∷ []) (pos 0)
    ++ at_least_row (row.LotHigh a m) ((Buy a m, neg_ℤ (pos 1)) ∷ (Order a m, x.max_kg) ∷ []) (pos 0)))
    c.args.tables.now.offers _ c.index-offers-number.result within is c.loop-number.invariant c.in_ok-add_months.ensures

pub add_months-requires-clause-least : goal.add_months-requires-clause-least
add_months-requires-clause-least c =
    let within : c.loop-number.number < length c.args.tables.now.offers = omega (arith, c.loop-number-test.true, c.offer_count-number-end.ensures) in
    let is : c.index-offers-number.result ≡ get_or c.args.tables.now.offers c.loop-number.number c.index-offers-number.result = rw c.offers-offers.ensures at c.index-offers-number.is in
    (offer_facts c.args.tables.now c.settings-settings.ensures.model c.loop-number.number c.index-offers-number.result within is).least

pub add_months-requires-clause-max_kg : goal.add_months-requires-clause-max_kg
add_months-requires-clause-max_kg c =
    let within : c.loop-number.number < length c.args.tables.now.offers = omega (arith, c.loop-number-test.true, c.offer_count-number-end.ensures) in
    let is : c.index-offers-number.result ≡ get_or c.args.tables.now.offers c.loop-number.number c.index-offers-number.result = rw c.offers-offers.ensures at c.index-offers-number.is in
    (offer_facts c.args.tables.now c.settings-settings.ensures.model c.loop-number.number c.index-offers-number.result within is).max_kg
