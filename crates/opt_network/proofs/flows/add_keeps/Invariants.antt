-- the records so far
use Rattle.std.proofs.Common.{◌≡◌, ◌++◌, ◌∷◌, [], take}
use Rattle.opt_model.specs.Quantities.{over, over_months, list_if}
use Rattle.opt_model.specs.declared.quantity.Quantity.TheVariants.{Keep}
use Rattle.opt_network.specs.Counts.{has_storage}
use Rattle.opt_network.proofs.flows.add_keeps.Given as goal

abbrev pub invariant-loop-number : goal.invariant-loop-number
invariant-loop-number l = l.list.items ≡ l.initial.list.items ++ (over (take l.number l.tables.places) λ n x. over l.tables.commodities λ c _. over_months l.tables λ m. list_if (has_storage x) (Keep n c m ∷ []))
