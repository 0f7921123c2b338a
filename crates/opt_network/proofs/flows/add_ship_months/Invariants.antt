-- the months so far
use Rattle.std.proofs.Common.{◌≡◌, ◌++◌, ◌∷◌, []}
use Rattle.std.specs.List.{flat_map, range_with_len}
use Rattle.opt_model.specs.Quantities.{list_if}
use Rattle.opt_model.specs.declared.quantity.Quantity.TheVariants.{Ship}
use Rattle.opt_network.specs.Counts.{arrives}
use Rattle.opt_network.proofs.flows.add_ship_months.Given as goal

abbrev pub invariant-loop-earlier : goal.invariant-loop-earlier
invariant-loop-earlier l = l.list.items ≡ l.initial.list.items ++ flat_map (λ m. list_if (arrives l.tables.settings.months l.arc m) (Ship l.number l.commodity m ∷ [])) (range_with_len 1 l.earlier)
