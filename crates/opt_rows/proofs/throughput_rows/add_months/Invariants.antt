-- the months so far
use Rattle.std.proofs.Common.{◌≡◌, ◌++◌, map, Some}
use Rattle.std.specs.List.{flat_map, range_with_len}
use Rattle.opt_model.specs.Rows.{throughput_row}
use Rattle.opt_rows.specs.Systems.{row_over}
use Rattle.opt_rows.proofs.throughput_rows.add_months.Given as goal

abbrev pub invariant-loop-earlier : goal.invariant-loop-earlier
invariant-loop-earlier l = l.rows ≡ l.initial.rows ++ map (row_over l.layout.quantities) (flat_map (λ m. throughput_row l.tables l.intake.place (Some l.intake.throughput) m) (range_with_len 1 l.earlier))
