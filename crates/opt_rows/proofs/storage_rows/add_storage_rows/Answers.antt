use Rattle.std.proofs.Common.{◌≡◌, ◌<◌, ◌∷◌, [], pos, length, get_or, arith}
use Rattle.std.specs.Prelude.{int_lt}
use Rattle.opt_model.specs.Quantities.{over, over_months, list_if}
use Rattle.opt_model.specs.Rows.{at_most_row}
use Rattle.opt_model.specs.declared.quantity.Quantity.TheVariants.{Keep}
use Rattle.opt_model.specs.declared.quantity.RowName.TheVariants as row
use Rattle.opt_rows.proofs.RowSteps.{place_facts, record_rows}
use Rattle.opt_rows.proofs.storage_rows.add_storage_rows.Goals as goal

pub loop-number-preserved : goal.loop-number-preserved
loop-number-preserved c =
    let within : c.loop-number.number < length c.args.tables.now.places = omega (arith, c.loop-number-test.true, c.place_count-number-end.ensures) in
    let is : c.index-places-number.result ≡ get_or c.args.tables.now.places c.loop-number.number c.index-places-number.result = rw c.places-places.ensures at c.index-places-number.is in
    record_rows c.args.layout.now.quantities _ _ _
    (λ a x. over_months c.args.tables.now λ m. list_if (int_lt (pos 0) x.storage)
    (at_most_row (row.Storage a m) (over c.args.tables.now.commodities λ n _. (Keep a n m, pos 1) ∷ []) x.storage))
    c.args.tables.now.places _ c.index-places-number.result within is c.loop-number.invariant c.in_ok-add_months.ensures

pub add_months-requires-clause-storage : goal.add_months-requires-clause-storage
add_months-requires-clause-storage c =
    let within : c.loop-number.number < length c.args.tables.now.places = omega (arith, c.loop-number-test.true, c.place_count-number-end.ensures) in
    let is : c.index-places-number.result ≡ get_or c.args.tables.now.places c.loop-number.number c.index-places-number.result = rw c.places-places.ensures at c.index-places-number.is in
    (place_facts c.args.tables.now c.settings-settings.ensures.model c.loop-number.number c.index-places-number.result within is).storage.above
