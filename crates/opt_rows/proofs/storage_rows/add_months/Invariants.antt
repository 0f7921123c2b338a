-- the months so far
use Rattle.std.proofs.Common.{◌≡◌, ◌++◌, ◌∷◌, [], map, pos}
use Rattle.std.specs.Prelude.{int_lt}
use Rattle.std.specs.List.{flat_map, range_with_len}
use Rattle.opt_model.specs.Quantities.{over, list_if}
use Rattle.opt_model.specs.Rows.{at_most_row}
use Rattle.opt_model.specs.declared.quantity.Quantity.TheVariants.{Keep}
use Rattle.opt_model.specs.declared.quantity.RowName.TheVariants as row
use Rattle.opt_rows.specs.Systems.{row_over}
use Rattle.opt_rows.proofs.storage_rows.add_months.Given as goal

abbrev pub invariant-loop-earlier : goal.invariant-loop-earlier
invariant-loop-earlier l =
    l.rows ≡ l.initial.rows ++ map (row_over l.layout.quantities) (flat_map (λ m. list_if (int_lt (pos 0) l.place.storage)
    (at_most_row (row.Storage l.number m) (over l.tables.commodities λ c _. (Keep l.number c m, pos 1) ∷ []) l.place.storage)) (range_with_len 1 l.earlier))
