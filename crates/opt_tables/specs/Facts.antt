-- What holds of every model that is read: its numbers are in their ranges, its names are text of 1 to 64 bytes without a space or a
-- tab at their ends, its references name records that are there, and no two records of a table have one key.
use Rattle.std.specs.Prelude.{◌≡◌, ◌≢◌, ℕ, ◌^◌, ◌<◌, ◌≤◌, ◌&&◌, ◌==◌, Bool, false, List, [], ◌∷◌, All, count_by, bytes_eq, IsUtf8, length, slice_get, slice_index_or, Option, Some, option_map, IfSome, ℤ, pos, ◌≤ℤ◌}
use Rattle.opt_model.specs.Settings.{has_baskets, has_lots}
use Rattle.opt_model.specs.Tables.{Tables}
use Rattle.opt_model.specs.Quantities.{least_steps, most_steps}
use Rattle.opt_model.specs.declared.limits.TheConstants.{BASKET_LIMIT, RATION_LIMIT, GROUP_LIMIT, NEED_LIMIT, WEIGHT_LIMIT, CONTENT_LIMIT, KILOGRAM_LIMIT, PRICE_LIMIT, PERSON_LIMIT, MONTH_LIMIT, LEAD_LIMIT}
use Rattle.opt_model.specs.declared.records.Commodity.{Commodity}
use Rattle.opt_model.specs.declared.records.Group.{Group}
use Rattle.opt_model.specs.declared.records.Content.{Content}
use Rattle.opt_model.specs.declared.records.PlaceKind.{PlaceKind}
use Rattle.opt_model.specs.declared.records.PlaceKind.TheVariants.{Supplier, Point}
use Rattle.opt_model.specs.declared.records.Place.{Place}
use Rattle.opt_model.specs.declared.records.Offer.{Offer}
use Rattle.opt_model.specs.declared.records.Arc.{Arc}
use Rattle.opt_model.specs.declared.records.Persons.{Persons}
use Rattle.opt_model.specs.declared.records.Stock.{Stock}
use Rattle.opt_model.specs.declared.records.Need.{Need}
use Rattle.opt_read.specs.Grid.{without_blanks}
use Rattle.opt_read.specs.Setup.{IsSetup}
use Rattle.opt_tables.specs.Demand.{only_basket}
use Rattle.opt_tables.specs.declared.offers.TheConstants.{FEE_LIMIT}
use Rattle.opt_tables.specs.declared.row.TheConstants.{NAME_LIMIT}

-- a number lies from the first to the second
pub record IsFrom (low high z : ℤ) : Type 0 where
  pub above : low ≤ℤ z
  pub below : z ≤ℤ high

-- kilograms
abbrev pub IsKilograms : ℤ → Type 0
IsKilograms z = IsFrom (pos 0) (pos KILOGRAM_LIMIT) z

-- mills per kilogram
abbrev pub IsPrice : ℤ → Type 0
IsPrice z = IsFrom (pos 0) (pos PRICE_LIMIT) z

-- a month of the plan
abbrev pub IsMonth : Tables → ℕ → Type 0
IsMonth t month = (1 ≤ month) × (month ≤ t.settings.months)

-- the numbers of a commodity are in their ranges, and a multiple of the step lies from the least to the greatest ration
pub record IsCommodity (r : Commodity) : Type 0 where
  pub min_g : IsFrom (pos 0) (pos RATION_LIMIT) r.min_g
  pub max_g : IsFrom (pos 0) (pos RATION_LIMIT) r.max_g
  pub step_g : IsFrom (pos 1) (pos RATION_LIMIT) r.step_g
  pub has_step : least_steps r ≤ℤ most_steps r

-- the group of a commodity, where it has one, is there
abbrev pub IsGrouped : Tables → Commodity → Type 0
IsGrouped t r = IfSome r.group (λ group. group < length t.groups)

-- the numbers of a group are in their ranges
pub record IsGroup (r : Group) : Type 0 where
  pub min_g : IsFrom (pos 0) (pos GROUP_LIMIT) r.min_g
  pub max_g : IsFrom (pos 0) (pos GROUP_LIMIT) r.max_g

-- a content is that of a commodity and a nutrient that are there
pub record IsContent (t : Tables) (r : Content) : Type 0 where
  pub commodity : r.commodity < length t.commodities
  pub nutrient : r.nutrient < length t.nutrients
  pub per_100g : IsFrom (pos 0) (pos CONTENT_LIMIT) r.per_100g

-- the numbers of a place are in their ranges
pub record IsPlace (r : Place) : Type 0 where
  pub storage : IsKilograms r.storage
  pub throughput : IfSome r.throughput IsKilograms
  pub handling : IsPrice r.handling
  pub storage_cost : IsPrice r.storage_cost

-- the kind of the place of this number, if there is one
abbrev pub kind_of : Tables → ℕ → Option PlaceKind
kind_of t place = option_map (λ r. r.kind) (slice_get t.places place)

-- an offer stands at a supplier, of a commodity that is there
pub record IsOffer (t : Tables) (r : Offer) : Type 0 where
  pub place : r.place < length t.places
  pub kind : kind_of t r.place ≡ Some Supplier
  pub commodity : r.commodity < length t.commodities
  pub price : IsPrice r.price
  pub max_kg : IsKilograms r.max_kg
  pub first : (1 ≤ r.first) × (r.first ≤ MONTH_LIMIT)
  pub last : (1 ≤ r.last) × (r.last ≤ MONTH_LIMIT)
  pub fee : IsFrom (pos 0) (pos FEE_LIMIT) r.fee
  pub least : IsKilograms r.least

-- an arc leads from a place to another that is no supplier
pub record IsArc (t : Tables) (r : Arc) : Type 0 where
  pub from_place : r.from_place < length t.places
  pub to_place : r.to_place < length t.places
  pub kind : kind_of t r.to_place ≢ Some Supplier
  pub apart : r.to_place ≢ r.from_place
  pub cost : IsPrice r.cost
  pub capacity : IsKilograms r.capacity
  pub lead : r.lead ≤ LEAD_LIMIT

-- persons of a basket that is there are fed at a point
pub record IsPersons (t : Tables) (r : Persons) : Type 0 where
  pub place : r.place < length t.places
  pub kind : kind_of t r.place ≡ Some Point
  pub month : IsMonth t r.month
  pub persons : IsFrom (pos 0) (pos PERSON_LIMIT) r.persons
  pub basket : r.basket < length t.baskets

-- stock is of a commodity that is there, at a place that is there
pub record IsStock (t : Tables) (r : Stock) : Type 0 where
  pub place : r.place < length t.places
  pub commodity : r.commodity < length t.commodities
  pub month : IsMonth t r.month
  pub kg : IsKilograms r.kg

-- the numbers of a need are in their ranges
pub record IsNeed (r : Need) : Type 0 where
  pub required : IsFrom (pos 0) (pos NEED_LIMIT) r.required
  pub max_short : IsFrom (pos 0) (pos NEED_LIMIT) r.max_short
  pub weight : IsFrom (pos 0) (pos WEIGHT_LIMIT) r.weight

-- a need is that of a basket for a nutrient that are there
pub record IsNeedIn (t : Tables) (r : Need) : Type 0 where
  pub basket : r.basket < length t.baskets
  pub nutrient : r.nutrient < length t.nutrients

-- no list is longer than a file of records can be
pub record IsShort (t : Tables) : Type 0 where
  pub commodities : length t.commodities ≤ 2 ^ 24
  pub groups : length t.groups ≤ 2 ^ 24
  pub nutrients : length t.nutrients ≤ 2 ^ 24
  pub contents : length t.contents ≤ 2 ^ 24
  pub places : length t.places ≤ 2 ^ 24
  pub offers : length t.offers ≤ 2 ^ 24
  pub arcs : length t.arcs ≤ 2 ^ 24
  pub persons : length t.persons ≤ 2 ^ 24
  pub stock : length t.stock ≤ 2 ^ 24
  pub needs : length t.needs ≤ 2 ^ 24

-- a name of 1 to 64 bytes of text, with no space or tab at its ends
pub record IsCleanName (name : List ℕ) : Type 0 where
  pub text : IsUtf8 name
  pub stripped : without_blanks name ≡ name
  pub some : 1 ≤ length name
  pub short : length name ≤ NAME_LIMIT

-- the names of all records are such names
pub record HasCleanNames (t : Tables) : Type 0 where
  pub baskets : All (λ r. IsCleanName r.basket) t.baskets
  pub commodities : All (λ r. IsCleanName r.commodity) t.commodities
  pub groups : All (λ r. IsCleanName r.group) t.groups
  pub nutrients : All (λ r. IsCleanName r.nutrient) t.nutrients
  pub offers : All (λ r. IsCleanName r.offer) t.offers
  pub arcs : All (λ r. IsCleanName r.arc) t.arcs
  pub places : All (λ r. IsCleanName r.place) t.places

-- at most one record of each table has a key
pub record HasKeys (t : Tables) : Type 0 where
  pub commodity : (name : List ℕ) → count_by (λ r. bytes_eq r.commodity name) t.commodities ≤ 1
  pub group : (name : List ℕ) → count_by (λ r. bytes_eq r.group name) t.groups ≤ 1
  pub nutrient : (name : List ℕ) → count_by (λ r. bytes_eq r.nutrient name) t.nutrients ≤ 1
  pub content : (commodity nutrient : ℕ) → count_by (λ r. (r.commodity == commodity) && (r.nutrient == nutrient)) t.contents ≤ 1
  pub place : (name : List ℕ) → count_by (λ r. bytes_eq r.place name) t.places ≤ 1
  pub offer : (name : List ℕ) → count_by (λ r. bytes_eq r.offer name) t.offers ≤ 1
  pub arc : (name : List ℕ) → count_by (λ r. bytes_eq r.arc name) t.arcs ≤ 1
  pub persons : (place basket month : ℕ) → count_by (λ r. (r.place == place) && (r.basket == basket) && (r.month == month)) t.persons ≤ 1
  pub stock : (place commodity month : ℕ) → count_by (λ r. (r.place == place) && (r.commodity == commodity) && (r.month == month)) t.stock ≤ 1
  pub basket : (name : List ℕ) → count_by (λ r. bytes_eq r.basket name) t.baskets ≤ 1
  pub need : (basket nutrient : ℕ) → count_by (λ r. (r.basket == basket) && (r.nutrient == nutrient)) t.needs ≤ 1

-- a need of the one basket for the nutrient of the same number
pub record IsNeedOf (number : ℕ) (r : Need) : Type 0 where
  pub basket : r.basket ≡ 0
  pub nutrient : r.nutrient ≡ number

-- there is one basket, `all`, which needs each nutrient, in order
pub record HasOneBasket (t : Tables) : Type 0 where
  pub basket : t.baskets ≡ only_basket ∷ []
  pub a_need_each : length t.needs ≡ length t.nutrients
  pub in_order : (number : ℕ) (d : Need) → number < length t.needs → IsNeedOf number (slice_index_or t.needs number d)

-- an offer has no fee and no least lot
pub record HasNoLot (r : Offer) : Type 0 where
  pub fee : r.fee ≡ pos 0
  pub least : r.least ≡ pos 0

-- a model that was read
pub record IsModel (t : Tables) : Type 0 where
  pub settings : IsSetup t.settings
  pub some_commodity : 1 ≤ length t.commodities
  pub some_basket : 1 ≤ length t.baskets
  pub few_baskets : length t.baskets ≤ BASKET_LIMIT
  pub short : IsShort t
  pub names : HasCleanNames t
  pub commodities : All IsCommodity t.commodities
  pub grouped : All (IsGrouped t) t.commodities
  pub groups : All IsGroup t.groups
  pub contents : All (IsContent t) t.contents
  pub places : All IsPlace t.places
  pub offers : All (IsOffer t) t.offers
  pub arcs : All (IsArc t) t.arcs
  pub persons : All (IsPersons t) t.persons
  pub stock : All (IsStock t) t.stock
  pub needs : All IsNeed t.needs
  pub needs_in : All (IsNeedIn t) t.needs
  pub keys : HasKeys t
  pub first_format : has_baskets t.settings.format ≡ false → HasOneBasket t
  pub no_lots : has_lots t.settings.format ≡ false → All HasNoLot t.offers
