use Rattle.std.proofs.Common.{◌∷◌, [], pos, neg_ℤ, refl}
use Rattle.opt_model.specs.declared.quantity.Quantity.TheVariants.{Keep, Feed}
use Rattle.opt_rows.proofs.ListedTerms.{term_added, both_terms}
use Rattle.opt_rows.proofs.balance_rows.add_uses.Goals as goal

pub returns : goal.returns
returns c =
    let spot = c.args.spot in
    let qs = c.args.layout.now.quantities in
    let one = neg_ℤ (pos 1) in
    let keep = Keep spot.place spot.commodity spot.month in
    let feed = Feed spot.place spot.commodity spot.month in
    both_terms qs ((keep, one) ∷ []) ((feed, one) ∷ []) _ _ _
    (term_added qs _ _ (c.kept.result, one) keep one c.kept.ensures refl c.in_ok-add.ensures)
    (term_added qs _ _ (c.handed_out.result, one) feed one c.handed_out.ensures refl c.in_ok-add-2.ensures)
