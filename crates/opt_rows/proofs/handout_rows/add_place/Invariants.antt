-- the commodities so far
use Rattle.std.proofs.Common.{◌≡◌, ◌++◌, map, take}
use Rattle.opt_model.specs.Quantities.{over, over_months, list_if}
use Rattle.opt_network.specs.Counts.{is_fed}
use Rattle.opt_rows.specs.Parts.{handout_pair}
use Rattle.opt_rows.specs.Systems.{row_over}
use Rattle.opt_rows.proofs.handout_rows.add_place.Given as goal

abbrev pub invariant-loop-commodity : goal.invariant-loop-commodity
invariant-loop-commodity l =
    l.rows ≡ l.initial.rows ++ map (row_over l.layout.quantities) (over (take l.commodity l.tables.commodities) λ c _. over_months l.tables λ m.
    list_if (is_fed l.tables l.site.place l.site.kind m) (handout_pair l.tables l.site.place c m))
