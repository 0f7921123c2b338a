-- the records so far
use Rattle.std.proofs.Common.{◌≡◌, ◌++◌, ◌∷◌, [], take}
use Rattle.opt_model.specs.Quantities.{over, over_months}
use Rattle.opt_model.specs.declared.quantity.Quantity.TheVariants.{Ration}
use Rattle.opt_network.proofs.listing.add_basket.Given as goal

abbrev pub invariant-loop-commodity : goal.invariant-loop-commodity
invariant-loop-commodity l = l.list.items ≡ l.initial.list.items ++ (over (take l.commodity l.tables.commodities) λ n _. over_months l.tables λ m. Ration l.basket n m ∷ [])
