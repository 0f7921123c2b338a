-- What a unit of a quantity adds to a goal.
use Rattle.std.specs.Prelude.{ℤ, pos, ◌+ℤ◌}
use Rattle.opt_model.specs.Tables.{Tables}
use Rattle.opt_model.specs.Quantities.{of_record}
use Rattle.opt_model.specs.declared.records.Goal.{Goal}
use Rattle.opt_model.specs.declared.records.Goal.TheVariants.{Cost, Shortfall}
use Rattle.opt_model.specs.declared.quantity.Quantity.{Quantity}
use Rattle.opt_model.specs.declared.quantity.Quantity.TheVariants.{Ration, Short, Buy, Ship, Keep, Feed, Order}

-- what a unit costs, in mills
abbrev pub mills_of : Tables → Quantity → ℤ
mills_of t (Ration b c m) = pos 0
mills_of t (Short d m) = pos 0
mills_of t (Buy o m) = of_record t.offers o λ r. r.price
mills_of t (Ship a c m) = of_record t.arcs a λ r. r.cost +ℤ (of_record t.places r.to_place λ place. place.handling)
mills_of t (Keep p c m) = of_record t.places p λ r. r.storage_cost
mills_of t (Feed p c m) = pos 0
mills_of t (Order o m) = of_record t.offers o λ r. r.fee

-- what a unit weighs, in weighted shortfall
abbrev pub weight_of : Tables → Quantity → ℤ
weight_of t (Ration b c m) = pos 0
weight_of t (Short d m) = of_record t.needs d λ r. r.weight
weight_of t (Buy o m) = pos 0
weight_of t (Ship a c m) = pos 0
weight_of t (Keep p c m) = pos 0
weight_of t (Feed p c m) = pos 0
weight_of t (Order o m) = pos 0

-- what a unit adds to a goal
abbrev pub unit_cost : Tables → Goal → Quantity → ℤ
unit_cost t Cost q = mills_of t q
unit_cost t Shortfall q = weight_of t q
