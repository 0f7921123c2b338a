-- the records so far
use Rattle.std.proofs.Common.{◌≡◌, ◌++◌, ◌∷◌, [], take}
use Rattle.opt_model.specs.Quantities.{over, over_months, list_if}
use Rattle.opt_model.specs.declared.quantity.Quantity.TheVariants.{Feed}
use Rattle.opt_network.specs.Counts.{is_fed}
use Rattle.opt_network.proofs.flows.add_place.Given as goal

abbrev pub invariant-loop-commodity : goal.invariant-loop-commodity
invariant-loop-commodity l = l.list.items ≡ l.initial.list.items ++ (over (take l.commodity l.tables.commodities) λ n _. over_months l.tables λ m. list_if (is_fed l.tables l.number l.place.kind m) (Feed l.number n m ∷ []))
