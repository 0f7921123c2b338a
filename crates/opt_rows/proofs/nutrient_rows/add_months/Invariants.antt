-- the months so far
use Rattle.std.proofs.Common.{◌≡◌, ◌++◌, map}
use Rattle.std.specs.List.{flat_map, range_with_len}
use Rattle.opt_rows.specs.Parts.{nutrient_row}
use Rattle.opt_rows.specs.Systems.{row_over}
use Rattle.opt_rows.proofs.nutrient_rows.add_months.Given as goal

abbrev pub invariant-loop-earlier : goal.invariant-loop-earlier
invariant-loop-earlier l =
    l.rows ≡ l.initial.rows ++ map (row_over l.layout.quantities) (flat_map (nutrient_row l.tables l.demand.number l.demand.need.now) (range_with_len 1 l.earlier))
