-- the baskets so far
use Rattle.std.proofs.Common.{◌≡◌, ◌++◌, map, take}
use Rattle.opt_model.specs.Quantities.{over, over_months}
use Rattle.opt_rows.specs.Parts.{group_pair}
use Rattle.opt_rows.specs.Systems.{row_over}
use Rattle.opt_rows.proofs.group_rows.add_group_rows.Given as goal

abbrev pub invariant-loop-basket : goal.invariant-loop-basket
invariant-loop-basket l =
    l.rows ≡ l.initial.rows ++ map (row_over l.layout.quantities) (over (take l.basket l.tables.baskets) λ b _.
    over l.tables.groups λ g group. over_months l.tables (group_pair l.tables b g group))
