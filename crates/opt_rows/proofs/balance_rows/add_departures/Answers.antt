use Rattle.std.proofs.Common.{◌∷◌, [], pos, neg_ℤ, refl}
use Rattle.opt_model.specs.declared.quantity.Quantity.TheVariants.{Ship}
use Rattle.opt_rows.proofs.RowSteps.{read_at}
use Rattle.opt_rows.proofs.ListedTerms.{listed_terms}
use Rattle.opt_rows.proofs.balance_rows.add_departures.Goals as goal

pub loop-way-preserved : goal.loop-way-preserved
loop-way-preserved c =
    let spot = c.args.spot in
    listed_terms c.args.layout.now.quantities _ _ _ (λ way. (Ship way.arc spot.commodity spot.month, neg_ℤ (pos 1)) ∷ []) c.args.departures.now c.loop-way.way-index _
    c.loop-way-test.true (read_at c.args.departures.now c.args.departures.now c.loop-way.way-index _ refl c.loop-way-test.true) c.loop-way.invariant c.in_ok-add.ensures
