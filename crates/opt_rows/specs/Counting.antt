-- What rows are counted by.
use Rattle.std.specs.Prelude.{Bool, true, false, is_some}
use Rattle.opt_model.specs.declared.records.Place.{Place}
use Rattle.opt_model.specs.declared.quantity.Quantity.{Quantity}
use Rattle.opt_model.specs.declared.quantity.Quantity.TheVariants.{Ration, Short, Buy, Ship, Keep, Feed, Order}

-- what can arrive at a place in a month has a limit
abbrev pub has_throughput : Place → Bool
has_throughput place = is_some place.throughput

-- a quantity has two rows of its own
abbrev pub has_two_rows : Quantity → Bool
has_two_rows (Ration b c m) = false
has_two_rows (Short d m) = false
has_two_rows (Buy o m) = false
has_two_rows (Ship a c m) = false
has_two_rows (Keep p c m) = false
has_two_rows (Feed p c m) = true
has_two_rows (Order o m) = true
