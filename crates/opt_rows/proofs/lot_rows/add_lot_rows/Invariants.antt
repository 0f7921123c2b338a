-- the offers so far
use Rattle.std.proofs.Common.{◌≡◌, ◌++◌, ◌∷◌, [], map, take, pos, neg_ℤ}
use Rattle.opt_model.specs.Quantities.{over, over_months, list_if}
use Rattle.opt_model.specs.Rows.{at_least_row}
use Rattle.opt_model.specs.declared.quantity.Quantity.TheVariants.{Buy, Order}
use Rattle.opt_model.specs.declared.quantity.RowName.TheVariants as row
use Rattle.opt_network.specs.Counts.{is_ordered}
use Rattle.opt_rows.specs.Systems.{row_over}
use Rattle.opt_rows.proofs.lot_rows.add_lot_rows.Given as goal

abbrev pub invariant-loop-number : goal.invariant-loop-number
invariant-loop-number l =
    l.rows ≡ l.initial.rows ++ map (row_over l.layout.quantities) (over (take l.number l.tables.offers) λ o offer. over_months l.tables λ m. list_if (is_ordered offer m)
    (at_least_row (row.LotLow o m) ((Buy o m, pos 1) ∷ (Order o m, neg_ℤ offer.least) ∷ []) (pos 0)
    ++ at_least_row (row.LotHigh o m) ((Buy o m, neg_ℤ (pos 1)) ∷ (Order o m, offer.max_kg) ∷ []) (pos 0)))
