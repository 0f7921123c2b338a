-- the groups so far
use Rattle.std.proofs.Common.{◌≡◌, ◌++◌, map, take}
use Rattle.opt_model.specs.Quantities.{over, over_months}
use Rattle.opt_rows.specs.Parts.{group_pair}
use Rattle.opt_rows.specs.Systems.{row_over}
use Rattle.opt_rows.proofs.group_rows.add_basket.Given as goal

abbrev pub invariant-loop-number : goal.invariant-loop-number
invariant-loop-number l =
    l.rows ≡ l.initial.rows ++ map (row_over l.layout.quantities) (over (take l.number l.tables.groups) λ g group. over_months l.tables (group_pair l.tables l.basket g group))
