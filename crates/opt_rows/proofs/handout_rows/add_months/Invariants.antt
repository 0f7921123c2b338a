-- the months so far
use Rattle.std.proofs.Common.{◌≡◌, ◌++◌, map}
use Rattle.std.specs.List.{flat_map, range_with_len}
use Rattle.opt_model.specs.Quantities.{list_if}
use Rattle.opt_network.specs.Counts.{is_fed}
use Rattle.opt_rows.specs.Parts.{handout_pair}
use Rattle.opt_rows.specs.Systems.{row_over}
use Rattle.opt_rows.proofs.handout_rows.add_months.Given as goal

abbrev pub invariant-loop-earlier : goal.invariant-loop-earlier
invariant-loop-earlier l =
    l.rows ≡ l.initial.rows ++ map (row_over l.layout.quantities) (flat_map (λ m.
    list_if (is_fed l.tables l.site.place l.site.kind m) (handout_pair l.tables l.site.place l.commodity m)) (range_with_len 1 l.earlier))
