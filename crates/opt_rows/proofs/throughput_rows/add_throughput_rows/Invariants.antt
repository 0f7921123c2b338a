-- the places so far
use Rattle.std.proofs.Common.{◌≡◌, ◌++◌, map, take}
use Rattle.opt_model.specs.Quantities.{over, over_months}
use Rattle.opt_model.specs.Rows.{throughput_row}
use Rattle.opt_rows.specs.Systems.{row_over}
use Rattle.opt_rows.proofs.throughput_rows.add_throughput_rows.Given as goal

abbrev pub invariant-loop-number : goal.invariant-loop-number
invariant-loop-number l =
    l.rows ≡ l.initial.rows ++ map (row_over l.layout.quantities) (over (take l.number l.tables.places) λ p place. over_months l.tables λ m. throughput_row l.tables p place.throughput m)
