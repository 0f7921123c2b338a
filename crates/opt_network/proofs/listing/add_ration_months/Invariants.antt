-- the months so far
use Rattle.std.proofs.Common.{◌≡◌, ◌++◌, ◌∷◌, []}
use Rattle.std.specs.List.{flat_map, range_with_len}
use Rattle.opt_model.specs.declared.quantity.Quantity.TheVariants.{Ration}
use Rattle.opt_network.proofs.listing.add_ration_months.Given as goal

abbrev pub invariant-loop-earlier : goal.invariant-loop-earlier
invariant-loop-earlier l = l.list.items ≡ l.initial.list.items ++ flat_map (λ m. Ration l.basket l.commodity m ∷ []) (range_with_len 1 l.earlier)
