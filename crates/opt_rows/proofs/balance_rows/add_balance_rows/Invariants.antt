-- the places so far
use Rattle.std.proofs.Common.{◌≡◌, ◌++◌, map, take}
use Rattle.opt_model.specs.Quantities.{over, over_months}
use Rattle.opt_rows.specs.Parts.{balance_row}
use Rattle.opt_rows.specs.Systems.{row_over}
use Rattle.opt_rows.proofs.balance_rows.add_balance_rows.Given as goal

abbrev pub invariant-loop-place : goal.invariant-loop-place
invariant-loop-place l =
    l.rows ≡ l.initial.rows ++ map (row_over l.layout.quantities) (over (take l.place l.tables.places) λ p _. over l.tables.commodities λ c _. over_months l.tables (balance_row l.tables p c))
