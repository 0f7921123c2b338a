-- the months so far
use Rattle.std.proofs.Common.{◌≡◌, ◌++◌, ◌∷◌, []}
use Rattle.std.specs.List.{flat_map, range_with_len}
use Rattle.opt_model.specs.declared.quantity.Quantity.TheVariants.{Short}
use Rattle.opt_network.proofs.listing.add_need.Given as goal

abbrev pub invariant-loop-earlier : goal.invariant-loop-earlier
invariant-loop-earlier l = l.list.items ≡ l.initial.list.items ++ flat_map (λ m. Short l.need m ∷ []) (range_with_len 1 l.earlier)
