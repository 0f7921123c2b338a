-- the arcs so far
use Rattle.std.proofs.Common.{◌≡◌, ◌++◌, ◌∷◌, [], take, pos, neg_ℤ}
use Rattle.std.specs.List.{flat_map}
use Rattle.opt_model.specs.declared.quantity.Quantity.TheVariants.{Ship}
use Rattle.opt_rows.specs.Gathering.{entries_of}
use Rattle.opt_rows.proofs.balance_rows.add_departures.Given as goal

abbrev pub invariant-loop-way : goal.invariant-loop-way
invariant-loop-way l =
    l.terms ≡ l.initial.terms ++ entries_of l.layout.quantities (flat_map (λ way. (Ship way.arc l.spot.commodity l.spot.month, neg_ℤ (pos 1)) ∷ []) (take l.way-index l.departures))
