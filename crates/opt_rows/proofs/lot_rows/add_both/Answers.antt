use Rattle.std.proofs.Common.{◌∷◌, [], pos, neg_ℤ}
use Rattle.opt_model.specs.Rows.{at_least_row}
use Rattle.opt_model.specs.declared.quantity.Quantity.TheVariants.{Buy, Order}
use Rattle.opt_model.specs.declared.quantity.RowName.TheVariants as row
use Rattle.opt_rows.proofs.RowSteps.{both_rows}
use Rattle.opt_rows.proofs.lot_rows.add_both.Goals as goal

pub returns : goal.returns
returns c =
    both_rows c.args.layout.now.quantities
    (at_least_row (row.LotLow c.args.number c.args.month) ((Buy c.args.number c.args.month, pos 1) ∷ (Order c.args.number c.args.month, neg_ℤ c.args.offer.now.least) ∷ []) (pos 0))
    (at_least_row (row.LotHigh c.args.number c.args.month) ((Buy c.args.number c.args.month, neg_ℤ (pos 1)) ∷ (Order c.args.number c.args.month, c.args.offer.now.max_kg) ∷ []) (pos 0))
    _ _ _ c.in_ok-add_low.ensures c.in_ok-add_high.ensures
