-- the needs so far
use Rattle.std.proofs.Common.{◌≡◌, ◌++◌, map, take}
use Rattle.opt_model.specs.Quantities.{over, over_months}
use Rattle.opt_rows.specs.Parts.{nutrient_row}
use Rattle.opt_rows.specs.Systems.{row_over}
use Rattle.opt_rows.proofs.nutrient_rows.add_nutrient_rows.Given as goal

abbrev pub invariant-loop-number : goal.invariant-loop-number
invariant-loop-number l =
    l.rows ≡ l.initial.rows ++ map (row_over l.layout.quantities) (over (take l.number l.tables.needs) λ d need. over_months l.tables (nutrient_row l.tables d need))
