-- the records so far
use Rattle.std.proofs.Common.{◌≡◌, ◌++◌, ◌∷◌, [], take}
use Rattle.opt_model.specs.Quantities.{over, over_months}
use Rattle.opt_model.specs.declared.quantity.Quantity.TheVariants.{Ration}
use Rattle.opt_network.proofs.listing.add_rations.Given as goal

abbrev pub invariant-loop-basket : goal.invariant-loop-basket
invariant-loop-basket l = l.list.items ≡ l.initial.list.items ++ (over (take l.basket l.tables.baskets) λ n _. over l.tables.commodities λ c _. over_months l.tables λ m. Ration n c m ∷ [])
