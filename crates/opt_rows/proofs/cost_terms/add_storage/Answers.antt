use Rattle.std.proofs.Common.{◌≡◌, ◌<◌, ◌∷◌, [], length, get_or, arith}
use Rattle.opt_model.specs.Quantities.{over, over_months}
use Rattle.opt_model.specs.declared.quantity.Quantity.TheVariants.{Keep}
use Rattle.opt_rows.proofs.RowSteps.{record_terms}
use Rattle.opt_rows.proofs.cost_terms.add_storage.Goals as goal

pub loop-number-preserved : goal.loop-number-preserved
loop-number-preserved c =
    let within : c.loop-number.number < length c.args.tables.now.places = omega (arith, c.loop-number-test.true, c.place_count-number-end.ensures) in
    let is : c.index-places-number.result ≡ get_or c.args.tables.now.places c.loop-number.number c.index-places-number.result = rw c.places-places.ensures at c.index-places-number.is in
    record_terms c.args.layout.now.quantities _ _ _ (λ n r. over c.args.tables.now.commodities λ k _. over_months c.args.tables.now λ m. (Keep n k m, r.storage_cost) ∷ [])
    c.args.tables.now.places _ c.index-places-number.result within is c.loop-number.invariant c.in_ok-add_storage_at.ensures
