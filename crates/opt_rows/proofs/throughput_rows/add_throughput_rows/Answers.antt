use Rattle.std.proofs.Common.{◌≡◌, ◌<◌, length, get_or, arith}
use Rattle.opt_model.specs.Quantities.{over_months}
use Rattle.opt_model.specs.Rows.{throughput_row}
use Rattle.opt_rows.proofs.RowSteps.{place_facts, record_rows}
use Rattle.opt_rows.proofs.throughput_rows.add_throughput_rows.Goals as goal

pub loop-number-preserved : goal.loop-number-preserved
loop-number-preserved c =
    let within : c.loop-number.number < length c.args.tables.now.places = omega (arith, c.loop-number-test.true, c.place_count-number-end.ensures) in
    let is : c.index-places-number.result ≡ get_or c.args.tables.now.places c.loop-number.number c.index-places-number.result = rw c.places-places.ensures at c.index-places-number.is in
    record_rows c.args.layout.now.quantities _ _ _ (λ n x. over_months c.args.tables.now λ m. throughput_row c.args.tables.now n x.throughput m)
    c.args.tables.now.places _ c.index-places-number.result within is c.loop-number.invariant c.in_ok-add_place.ensures

pub add_place-requires-clause-throughput : goal.add_place-requires-clause-throughput
add_place-requires-clause-throughput c =
    let within : c.loop-number.number < length c.args.tables.now.places = omega (arith, c.loop-number-test.true, c.place_count-number-end.ensures) in
    let is : c.index-places-number.result ≡ get_or c.args.tables.now.places c.loop-number.number c.index-places-number.result = rw c.places-places.ensures at c.index-places-number.is in
    (place_facts c.args.tables.now c.settings-settings.ensures.model c.loop-number.number c.index-places-number.result within is).throughput

pub add_place-requires-clause-place : goal.add_place-requires-clause-place
add_place-requires-clause-place c = omega (arith, c.loop-number-test.true, c.place_count-number-end.ensures)
