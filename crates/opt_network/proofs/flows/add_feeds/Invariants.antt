-- the records so far
use Rattle.std.proofs.Common.{◌≡◌, ◌++◌, ◌∷◌, [], take}
use Rattle.opt_model.specs.Quantities.{over, over_months, list_if}
use Rattle.opt_model.specs.declared.quantity.Quantity.TheVariants.{Feed}
use Rattle.opt_network.specs.Counts.{is_fed}
use Rattle.opt_network.proofs.flows.add_feeds.Given as goal

abbrev pub invariant-loop-number : goal.invariant-loop-number
invariant-loop-number l = l.list.items ≡ l.initial.list.items ++ (over (take l.number l.tables.places) λ n x. over l.tables.commodities λ c _. over_months l.tables λ m. list_if (is_fed l.tables n x.kind m) (Feed n c m ∷ []))
