-- the arcs so far
use Rattle.std.proofs.Common.{◌≡◌, ◌++◌, ◌+◌, ◌∷◌, [], map, take, pos}
use Rattle.std.specs.Prelude.{nat_le}
use Rattle.opt_model.specs.Quantities.{over, over_months, list_if}
use Rattle.opt_model.specs.Rows.{at_most_row}
use Rattle.opt_model.specs.declared.quantity.Quantity.TheVariants.{Ship}
use Rattle.opt_model.specs.declared.quantity.RowName.TheVariants as row
use Rattle.opt_rows.specs.Systems.{row_over}
use Rattle.opt_rows.proofs.arc_rows.add_arc_rows.Given as goal

abbrev pub invariant-loop-number : goal.invariant-loop-number
invariant-loop-number l =
    l.rows ≡ l.initial.rows ++ map (row_over l.layout.quantities) (over (take l.number l.tables.arcs) λ a arc. over_months l.tables λ m.
    list_if (nat_le (m + arc.lead) l.tables.settings.months) (at_most_row (row.Arc a m) (over l.tables.commodities λ c _. (Ship a c m, pos 1) ∷ []) arc.capacity))
