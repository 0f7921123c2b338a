-- the arcs so far
use Rattle.std.proofs.Common.{◌≡◌, ◌++◌, ◌∷◌, [], take, pos}
use Rattle.std.specs.Prelude.{◌-◌, nat_lt}
use Rattle.std.specs.List.{flat_map}
use Rattle.opt_model.specs.Quantities.{list_if}
use Rattle.opt_model.specs.declared.quantity.Quantity.TheVariants.{Ship}
use Rattle.opt_rows.specs.Gathering.{entries_of}
use Rattle.opt_rows.proofs.arrivals.add_arrivals.Given as goal

abbrev pub invariant-loop-arrival : goal.invariant-loop-arrival
invariant-loop-arrival l =
    l.terms ≡ l.initial.terms ++ entries_of l.layout.quantities (flat_map (λ arrival.
    list_if (nat_lt arrival.lead l.spot.month) ((Ship arrival.arc l.spot.commodity (l.spot.month - arrival.lead), pos 1) ∷ [])) (take l.arrival-index l.arrivals))
