use Rattle.std.proofs.Common.{◌≡◌, ◌<◌, length, get_or, arith}
use Rattle.opt_model.specs.Quantities.{over, over_months, list_if}
use Rattle.opt_network.specs.Counts.{is_fed}
use Rattle.opt_rows.specs.Parts.{handout_pair}
use Rattle.opt_rows.proofs.RowSteps.{record_rows}
use Rattle.opt_rows.proofs.handout_rows.add_handout_rows.Goals as goal

pub loop-number-preserved : goal.loop-number-preserved
loop-number-preserved c =
    let t = c.args.tables.now in
    let one = c.index-places-number.result in
    let within : c.loop-number.number < length t.places = omega (arith, c.loop-number-test.true, c.place_count-number-end.ensures) in
    let is : one ≡ get_or t.places c.loop-number.number one = rw c.places-places.ensures at c.index-places-number.is in
    record_rows c.args.layout.now.quantities _ _ _ (λ p x. over t.commodities λ n _. over_months t λ m. list_if (is_fed t p x.kind m) (handout_pair t p n m))
    t.places _ one within is c.loop-number.invariant c.in_ok-add_place.ensures
