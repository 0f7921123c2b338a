-- the records so far
use Rattle.std.proofs.Common.{◌≡◌, ◌++◌, ◌∷◌, [], take}
use Rattle.opt_model.specs.Quantities.{over, over_months, list_if}
use Rattle.opt_model.specs.declared.quantity.Quantity.TheVariants.{Order}
use Rattle.opt_network.specs.Counts.{is_ordered}
use Rattle.opt_network.proofs.listing.add_orders.Given as goal

abbrev pub invariant-loop-number : goal.invariant-loop-number
invariant-loop-number l = l.list.items ≡ l.initial.list.items ++ (over (take l.number l.tables.offers) λ n x. over_months l.tables λ m. list_if (is_ordered x m) (Order n m ∷ []))
