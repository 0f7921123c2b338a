use Rattle.std.proofs.Common.{◌∷◌, ◌++◌, [], pos, neg_ℤ}
use Rattle.opt_model.specs.Quantities.{list_if}
use Rattle.opt_model.specs.Rows.{at_least_row}
use Rattle.opt_model.specs.declared.quantity.Quantity.TheVariants.{Buy, Order}
use Rattle.opt_model.specs.declared.quantity.RowName.TheVariants as row
use Rattle.opt_network.specs.Counts.{is_ordered}
use Rattle.opt_rows.proofs.RowSteps.{month_rows}
use Rattle.opt_rows.proofs.lot_rows.add_months.Goals as goal

pub loop-earlier-preserved : goal.loop-earlier-preserved
loop-earlier-preserved c =
    month_rows c.args.layout.now.quantities _ _ _ (λ m. list_if (is_ordered c.args.offer.now m)
    (at_least_row (row.LotLow c.args.number m) ((Buy c.args.number m, pos 1) ∷ (Order c.args.number m, neg_ℤ c.args.offer.now.least) ∷ []) (pos 0)
    ++ at_least_row (row.LotHigh c.args.number m) ((Buy c.args.number m, neg_ℤ (pos 1)) ∷ (Order c.args.number m, c.args.offer.now.max_kg) ∷ []) (pos 0)))
    c.loop-earlier.earlier c.loop-earlier.invariant c.in_ok-add_month.ensures
