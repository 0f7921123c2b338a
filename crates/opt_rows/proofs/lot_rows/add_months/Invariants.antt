-- the months so far
use Rattle.std.proofs.Common.{◌≡◌, ◌++◌, ◌∷◌, [], map, pos, neg_ℤ}
use Rattle.std.specs.List.{flat_map, range_with_len}
use Rattle.opt_model.specs.Quantities.{list_if}
use Rattle.opt_model.specs.Rows.{at_least_row}
use Rattle.opt_model.specs.declared.quantity.Quantity.TheVariants.{Buy, Order}
use Rattle.opt_model.specs.declared.quantity.RowName.TheVariants as row
use Rattle.opt_network.specs.Counts.{is_ordered}
use Rattle.opt_rows.specs.Systems.{row_over}
use Rattle.opt_rows.proofs.lot_rows.add_months.Given as goal

abbrev pub invariant-loop-earlier : goal.invariant-loop-earlier
invariant-loop-earlier l =
    l.rows ≡ l.initial.rows ++ map (row_over l.layout.quantities) (flat_map (λ m. list_if (is_ordered l.offer m)
    (at_least_row (row.LotLow l.number m) ((Buy l.number m, pos 1) ∷ (Order l.number m, neg_ℤ l.offer.least) ∷ []) (pos 0)
    ++ at_least_row (row.LotHigh l.number m) ((Buy l.number m, neg_ℤ (pos 1)) ∷ (Order l.number m, l.offer.max_kg) ∷ []) (pos 0))) (range_with_len 1 l.earlier))
