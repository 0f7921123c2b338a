-- A model: what the tables of a folder say, in file order. A reference to another table is the number of its record, from 0.
use Rattle.std.specs.Prelude.{ℕ, ◌&&◌, ◌==◌, List, ℤ, pos}
use Rattle.std.specs.List.{find}
use Rattle.std.specs.Option.{option_map_or}
use Rattle.opt_model.specs.Settings.{Settings}
use Rattle.opt_model.specs.declared.records.Commodity.{Commodity}
use Rattle.opt_model.specs.declared.records.Group.{Group}
use Rattle.opt_model.specs.declared.records.Nutrient.{Nutrient}
use Rattle.opt_model.specs.declared.records.Content.{Content}
use Rattle.opt_model.specs.declared.records.Place.{Place}
use Rattle.opt_model.specs.declared.records.Offer.{Offer}
use Rattle.opt_model.specs.declared.records.Arc.{Arc}
use Rattle.opt_model.specs.declared.records.Persons.{Persons}
use Rattle.opt_model.specs.declared.records.Stock.{Stock}
use Rattle.opt_model.specs.declared.records.Basket.{Basket}
use Rattle.opt_model.specs.declared.records.Need.{Need}

-- the settings and the records of every table
pub record Tables : Type 0 where
  pub settings : Settings
  pub commodities : List Commodity
  pub groups : List Group
  pub nutrients : List Nutrient
  pub contents : List Content
  pub places : List Place
  pub offers : List Offer
  pub arcs : List Arc
  pub persons : List Persons
  pub stock : List Stock
  pub baskets : List Basket
  pub needs : List Need

-- the persons of a basket whom a point feeds in a month, or 0 where no record names them
abbrev pub heads_at : Tables → ℕ → ℕ → ℕ → ℤ
heads_at t place basket month =
    option_map_or (λ r. r.persons) (find (λ r. (r.place == place) && (r.basket == basket) && (r.month == month)) t.persons) (pos 0)

-- the kilograms that are at a place at a month's start and were not there before, or 0 where no record names them
abbrev pub stock_at : Tables → ℕ → ℕ → ℕ → ℤ
stock_at t place commodity month =
    option_map_or (λ r. r.kg) (find (λ r. (r.place == place) && (r.commodity == commodity) && (r.month == month)) t.stock) (pos 0)
