use Rattle.std.proofs.Common.{◌∷◌, [], pos, refl}
use Rattle.opt_model.specs.declared.quantity.Quantity.TheVariants.{Buy}
use Rattle.opt_rows.proofs.RowSteps.{read_at}
use Rattle.opt_rows.proofs.ListedTerms.{listed_terms}
use Rattle.opt_rows.proofs.balance_rows.add_bought.Goals as goal

pub loop-offer-preserved : goal.loop-offer-preserved
loop-offer-preserved c =
    listed_terms c.args.layout.now.quantities _ _ _ (λ o. (Buy o c.args.month, pos 1) ∷ []) c.args.offers.now c.loop-offer.offer-index _
    c.loop-offer-test.true (read_at c.args.offers.now c.args.offers.now c.loop-offer.offer-index _ refl c.loop-offer-test.true) c.loop-offer.invariant c.in_ok-add.ensures
