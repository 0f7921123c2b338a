-- the commodities so far
use Rattle.std.proofs.Common.{◌≡◌, ◌++◌, map, take}
use Rattle.opt_model.specs.Quantities.{over, over_months}
use Rattle.opt_rows.specs.Parts.{balance_row}
use Rattle.opt_rows.specs.Systems.{row_over}
use Rattle.opt_rows.proofs.balance_rows.add_commodities.Given as goal

abbrev pub invariant-loop-commodity : goal.invariant-loop-commodity
invariant-loop-commodity l =
    l.rows ≡ l.initial.rows ++ map (row_over l.layout.quantities) (over (take l.commodity l.tables.commodities) λ c _. over_months l.tables (balance_row l.tables l.flows.place c))
