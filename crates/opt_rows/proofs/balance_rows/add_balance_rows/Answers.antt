use Rattle.std.proofs.Common.{◌<◌, length, arith}
use Rattle.opt_model.specs.Quantities.{over, over_months}
use Rattle.opt_rows.specs.Parts.{balance_row}
use Rattle.opt_rows.proofs.RowSteps.{number_rows}
use Rattle.opt_rows.proofs.balance_rows.add_balance_rows.Goals as goal

pub loop-place-preserved : goal.loop-place-preserved
loop-place-preserved c =
    let t = c.args.tables.now in
    let within : c.loop-place.place < length t.places = omega (arith, c.loop-place-test.true, c.place_count-place-end.ensures) in
    number_rows c.args.layout.now.quantities _ _ _ (λ p. over t.commodities λ n _. over_months t (balance_row t p n)) t.places _ within c.loop-place.invariant c.in_ok-add_place.ensures

pub add_place-requires-clause-place : goal.add_place-requires-clause-place
add_place-requires-clause-place c = omega (arith, c.loop-place-test.true, c.place_count-place-end.ensures)
