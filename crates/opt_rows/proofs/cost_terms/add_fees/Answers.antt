use Rattle.std.proofs.Common.{◌≡◌, ◌<◌, ◌∷◌, [], length, get_or, arith}
use Rattle.opt_model.specs.Quantities.{over_months}
use Rattle.opt_model.specs.declared.quantity.Quantity.TheVariants.{Order}
use Rattle.opt_rows.proofs.RowSteps.{record_terms}
use Rattle.opt_rows.proofs.cost_terms.add_fees.Goals as goal

pub loop-number-preserved : goal.loop-number-preserved
loop-number-preserved c =
    let within : c.loop-number.number < length c.args.tables.now.offers = omega (arith, c.loop-number-test.true, c.offer_count-number-end.ensures) in
    let is : c.index-offers-number.result ≡ get_or c.args.tables.now.offers c.loop-number.number c.index-offers-number.result = rw c.offers-offers.ensures at c.index-offers-number.is in
    record_terms c.args.layout.now.quantities _ _ _ (λ n r. over_months c.args.tables.now λ m. (Order n m, r.fee) ∷ [])
    c.args.tables.now.offers _ c.index-offers-number.result within is c.loop-number.invariant c.in_ok-add_fees_of.ensures
