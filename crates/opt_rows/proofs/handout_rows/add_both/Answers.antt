use Rattle.std.proofs.Common.{◌∷◌, pos, neg_ℤ}
use Rattle.opt_model.specs.Rows.{at_least_row, negation, handed_terms}
use Rattle.opt_model.specs.declared.quantity.Quantity.TheVariants.{Feed}
use Rattle.opt_model.specs.declared.quantity.RowName.TheVariants as row
use Rattle.opt_rows.proofs.RowSteps.{both_rows}
use Rattle.opt_rows.proofs.handout_rows.add_both.Goals as goal

pub returns : goal.returns
returns c =
    let t = c.args.tables.now in
    let spot = c.args.spot in
    both_rows c.args.layout.now.quantities
    (at_least_row (row.HandoutLow spot.place spot.commodity spot.month) ((Feed spot.place spot.commodity spot.month, pos 1000) ∷ negation (handed_terms t spot.place spot.commodity spot.month)) (pos 0))
    (at_least_row (row.HandoutHigh spot.place spot.commodity spot.month) ((Feed spot.place spot.commodity spot.month, neg_ℤ (pos 1000)) ∷ handed_terms t spot.place spot.commodity spot.month) (neg_ℤ (pos 999)))
    _ _ _ c.in_ok-add_low.ensures c.in_ok-add_high.ensures
