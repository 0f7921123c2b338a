-- the places so far
use Rattle.std.proofs.Common.{◌≡◌, ◌++◌, ◌∷◌, [], map, take, pos}
use Rattle.std.specs.Prelude.{int_lt}
use Rattle.opt_model.specs.Quantities.{over, over_months, list_if}
use Rattle.opt_model.specs.Rows.{at_most_row}
use Rattle.opt_model.specs.declared.quantity.Quantity.TheVariants.{Keep}
use Rattle.opt_model.specs.declared.quantity.RowName.TheVariants as row
use Rattle.opt_rows.specs.Systems.{row_over}
use Rattle.opt_rows.proofs.storage_rows.add_storage_rows.Given as goal

abbrev pub invariant-loop-number : goal.invariant-loop-number
invariant-loop-number l =
    l.rows ≡ l.initial.rows ++ map (row_over l.layout.quantities) (over (take l.number l.tables.places) λ p place. over_months l.tables λ m.
    list_if (int_lt (pos 0) place.storage) (at_most_row (row.Storage p m) (over l.tables.commodities λ c _. (Keep p c m, pos 1) ∷ []) place.storage))
