-- the records so far
use Rattle.std.proofs.Common.{◌≡◌, ◌++◌, ◌∷◌, [], take}
use Rattle.opt_model.specs.Quantities.{over, over_months}
use Rattle.opt_model.specs.declared.quantity.Quantity.TheVariants.{Short}
use Rattle.opt_network.proofs.listing.add_shorts.Given as goal

abbrev pub invariant-loop-need : goal.invariant-loop-need
invariant-loop-need l = l.list.items ≡ l.initial.list.items ++ (over (take l.need l.tables.needs) λ n _. over_months l.tables λ m. Short n m ∷ [])
