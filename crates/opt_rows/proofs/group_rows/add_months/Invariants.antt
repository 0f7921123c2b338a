-- the months so far
use Rattle.std.proofs.Common.{◌≡◌, ◌++◌, map}
use Rattle.std.specs.List.{flat_map, range_with_len}
use Rattle.opt_rows.specs.Parts.{group_pair}
use Rattle.opt_rows.specs.Systems.{row_over}
use Rattle.opt_rows.proofs.group_rows.add_months.Given as goal

abbrev pub invariant-loop-earlier : goal.invariant-loop-earlier
invariant-loop-earlier l =
    l.rows ≡ l.initial.rows ++ map (row_over l.layout.quantities) (flat_map (group_pair l.tables l.share.basket l.share.number l.share.group.now) (range_with_len 1 l.earlier))
