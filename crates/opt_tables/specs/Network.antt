-- What the records of the tables of the network say: places, offers, arcs, persons, stock.
use Rattle.std.specs.Prelude.{ℕ, ◌==◌, ◌||◌, Bool, true, false, pos, List, [], slice_get, Result, Ok, Err, if◌then◌else◌, option_map}
use Rattle.std.specs.Option.{option_map_or}
use Rattle.opt_base.specs.declared.refusal.File.TheVariants.{Places, Offers, Arcs, Persons, Stock}
use Rattle.opt_base.specs.declared.refusal.Kind.TheVariants.{WrongPlaceKind}
use Rattle.opt_base.specs.declared.refusal.Refusal.{Refusal}
use Rattle.opt_base.specs.Answers.{◌>>=◌}
use Rattle.opt_model.specs.declared.limits.TheConstants.{KILOGRAM_LIMIT, PRICE_LIMIT, PERSON_LIMIT, MONTH_LIMIT, LEAD_LIMIT}
use Rattle.opt_model.specs.Settings.{Settings, has_baskets, has_lots}
use Rattle.opt_model.specs.declared.records.PlaceKind.{PlaceKind}
use Rattle.opt_model.specs.declared.records.PlaceKind.TheVariants.{Supplier, Port, Hub, Point}
use Rattle.opt_model.specs.declared.records.Place.{Place}
use Rattle.opt_model.specs.declared.records.Offer.{Offer}
use Rattle.opt_model.specs.declared.records.Arc.{Arc}
use Rattle.opt_model.specs.declared.records.Persons.{Persons as PersonsRecord}
use Rattle.opt_model.specs.declared.records.Stock.{Stock as StockRecord}
use Rattle.opt_tables.specs.Keys.{Known, NameInMonth, NamesInMonth}
use Rattle.opt_tables.specs.Records.{Record, refused_at, text_in, name_in, number_in, optional_number_in, kind_in, reference_in}
use Rattle.opt_tables.specs.Lines.{Lines, lines_in, name_key}
use Rattle.opt_tables.specs.declared.places.PlaceLine.{PlaceLine}
use Rattle.opt_tables.specs.declared.offers.OfferLine.{OfferLine}
use Rattle.opt_tables.specs.declared.offers.Lot.{Lot}
use Rattle.opt_tables.specs.declared.offers.TheConstants.{FEE_LIMIT}
use Rattle.opt_tables.specs.declared.arcs.ArcLine.{ArcLine}
use Rattle.opt_tables.specs.declared.persons.PersonsLine.{PersonsLine}
use Rattle.opt_tables.specs.declared.stock.StockLine.{StockLine}
use Rattle.opt_tables.specs.Diet.{Diet}
use Rattle.opt_tables.specs.Demand.{Demand}

-- a place's kind and numbers; where the throughput is empty there is no limit
abbrev pub place_line_of : Record → Result PlaceLine Refusal
place_line_of row = do
  name ← name_in row 1
  kind ← kind_in row 2
  storage ← number_in row 3 0 KILOGRAM_LIMIT
  throughput ← optional_number_in row 4 0 KILOGRAM_LIMIT
  handling ← number_in row 5 0 PRICE_LIMIT
  storage_cost ← number_in row 6 0 PRICE_LIMIT
  Ok (record { kind = kind; storage = storage; throughput = throughput; handling = handling; storage_cost = storage_cost })

-- an offer's fee and least lot, which are 0 in a format without them
abbrev pub lot_in : Settings → Record → Result Lot Refusal
lot_in settings row =
    if has_lots settings.format
    then (number_in row 8 0 FEE_LIMIT >>= λ fee. number_in row 9 0 KILOGRAM_LIMIT >>= λ least. Ok (record { fee = pos fee; least = least }))
    else Ok (record { fee = pos 0; least = 0 })

-- an offer's numbers
abbrev pub offer_line_of : Settings → Record → Result OfferLine Refusal
offer_line_of settings row = do
  name ← name_in row 1
  place ← name_in row 2
  commodity ← name_in row 3
  price ← number_in row 4 0 PRICE_LIMIT
  max_kg ← number_in row 5 0 KILOGRAM_LIMIT
  first ← number_in row 6 1 MONTH_LIMIT
  last ← number_in row 7 1 MONTH_LIMIT
  lot ← lot_in settings row
  Ok (record { price = price; max_kg = max_kg; first = first; last = last; lot = lot })

-- an arc's numbers
abbrev pub arc_line_of : Record → Result ArcLine Refusal
arc_line_of row = do
  name ← name_in row 1
  start ← name_in row 2
  end ← name_in row 3
  cost ← number_in row 4 0 PRICE_LIMIT
  capacity ← number_in row 5 0 KILOGRAM_LIMIT
  lead ← number_in row 6 0 LEAD_LIMIT
  Ok (record { cost = cost; capacity = capacity; lead = lead })

-- the name of a basket in the column of baskets, where a format has one
abbrev pub basket_name_in : Settings → Record → Result (List ℕ) Refusal
basket_name_in settings row = if has_baskets settings.format then name_in row 4 else Ok []

-- the numbers of a record of persons
abbrev pub persons_line_of : Settings → Record → Result PersonsLine Refusal
persons_line_of settings row = do
  place ← name_in row 1
  month ← number_in row 2 1 settings.months
  persons ← number_in row 3 0 PERSON_LIMIT
  basket ← basket_name_in settings row
  Ok (record { month = month; persons = persons })

-- a record of persons is known by its place and its month, and by its basket where a format has more than one
abbrev pub persons_key : Settings → Record → PersonsLine → Known
persons_key settings row line =
    if has_baskets settings.format then NamesInMonth (text_in row 1) (text_in row 4) line.month else NameInMonth (text_in row 1) line.month

-- the numbers of a record of stock
abbrev pub stock_line_of : Settings → Record → Result StockLine Refusal
stock_line_of settings row = do
  place ← name_in row 1
  commodity ← name_in row 2
  month ← number_in row 3 1 settings.months
  kg ← number_in row 4 0 KILOGRAM_LIMIT
  Ok (record { month = month; kg = kg })

-- a record of stock is known by its place, its commodity and its month
abbrev pub stock_key : Record → StockLine → Known
stock_key row line = NamesInMonth (text_in row 1) (text_in row 2) line.month

-- the tables of the network as they are split into fields, each with its own refusal where it has one
pub record NetworkGrids : Type 0 where
  pub places : Result (List (List (List ℕ))) Refusal
  pub offers : Result (List (List (List ℕ))) Refusal
  pub arcs : Result (List (List (List ℕ))) Refusal
  pub persons : Result (List (List (List ℕ))) Refusal
  pub stock : Result (List (List (List ℕ))) Refusal

-- what the tables of the network say but for the records that they name
pub record Network : Type 0 where
  pub places : Lines PlaceLine
  pub offers : Lines OfferLine
  pub arcs : Lines ArcLine
  pub persons : Lines PersonsLine
  pub stock : Lines StockLine

-- what the tables of the network say, or their first refusal
unfoldable pub network_of : Settings → NetworkGrids → Result Network Refusal
network_of settings grids = do
  places ← lines_in place_line_of name_key Places grids.places
  offers ← lines_in (offer_line_of settings) name_key Offers grids.offers
  arcs ← lines_in arc_line_of name_key Arcs grids.arcs
  persons ← lines_in (persons_line_of settings) (persons_key settings) Persons grids.persons
  stock ← lines_in (stock_line_of settings) stock_key Stock grids.stock
  Ok (record { places = places; offers = offers; arcs = arcs; persons = persons; stock = stock })

-- the records of the network
pub record NetworkTables : Type 0 where
  pub places : List Place
  pub offers : List Offer
  pub arcs : List Arc
  pub persons : List PersonsRecord
  pub stock : List StockRecord

-- whether two kinds of places are the same
abbrev pub are_same_kind : PlaceKind → PlaceKind → Bool
are_same_kind Supplier Supplier = true
are_same_kind Port Port = true
are_same_kind Hub Hub = true
are_same_kind Point Point = true
are_same_kind _ _ = false

-- whether the place of this number, from 0, is of this kind
abbrev pub has_kind : PlaceKind → Lines PlaceLine → ℕ → Bool
has_kind kind places place = option_map_or (λ (line : PlaceLine). are_same_kind line.kind kind) (slice_get places.lines place) false

-- the number of the place that a column names, which must be of this kind
abbrev pub place_of_kind_in : PlaceKind → Record → ℕ → Lines PlaceLine → Result ℕ Refusal
place_of_kind_in kind row column places =
    reference_in row column places.keys >>= λ place.
    if has_kind kind places place then Ok place else Err (refused_at row column WrongPlaceKind)

-- the number of the place that a column names, where an arc from this place may end: no supplier, and not where it starts
abbrev pub end_in : Record → ℕ → Lines PlaceLine → ℕ → Result ℕ Refusal
end_in row column places start =
    reference_in row column places.keys >>= λ place.
    if has_kind Supplier places place || (place == start) then Err (refused_at row column WrongPlaceKind) else Ok place

-- a place
abbrev pub place_of : Record → PlaceLine → Result Place Refusal
place_of row line =
    Ok (record { place = text_in row 1; kind = line.kind; storage = pos line.storage; throughput = option_map pos line.throughput; handling = pos line.handling; storage_cost = pos line.storage_cost })

-- an offer, which stands at a supplier among these places, of a commodity that is known by one of these
abbrev pub offer_by : Lines PlaceLine → List Known → Record → OfferLine → Result Offer Refusal
offer_by places commodities row line = do
  place ← place_of_kind_in Supplier row 2 places
  commodity ← reference_in row 3 commodities
  Ok (record { offer = text_in row 1; place = place; commodity = commodity; price = pos line.price; max_kg = pos line.max_kg; first = line.first; last = line.last; fee = line.lot.fee; least = pos line.lot.least })

-- the same of the places and commodities that are there
abbrev pub offer_of : Diet → Network → Record → OfferLine → Result Offer Refusal
offer_of diet network = offer_by network.places diet.commodities.keys

-- an arc among these places, which ends at another that is no supplier
abbrev pub arc_by : Lines PlaceLine → Record → ArcLine → Result Arc Refusal
arc_by places row line = do
  start ← reference_in row 2 places.keys
  end ← end_in row 3 places start
  Ok (record { arc = text_in row 1; from_place = start; to_place = end; cost = pos line.cost; capacity = pos line.capacity; lead = line.lead })

-- the same of the places that are there
abbrev pub arc_of : Network → Record → ArcLine → Result Arc Refusal
arc_of network = arc_by network.places

-- the number of the basket, among those that are known by these, that the column of baskets names, or of the one basket
abbrev pub basket_by : Settings → Record → List Known → Result ℕ Refusal
basket_by settings row baskets = if has_baskets settings.format then reference_in row 4 baskets else Ok 0

-- the same of the baskets that are there
abbrev pub basket_in : Settings → Record → Demand → Result ℕ Refusal
basket_in settings row demand = basket_by settings row demand.baskets.keys

-- the persons of a basket whom a point feeds in a month
abbrev pub persons_by : Settings → Lines PlaceLine → List Known → Record → PersonsLine → Result PersonsRecord Refusal
persons_by settings places baskets row line = do
  place ← place_of_kind_in Point row 1 places
  basket ← basket_by settings row baskets
  Ok (record { place = place; month = line.month; persons = pos line.persons; basket = basket })

-- the same of the places and baskets that are there
abbrev pub persons_of : Settings → Network → Demand → Record → PersonsLine → Result PersonsRecord Refusal
persons_of settings network demand = persons_by settings network.places demand.baskets.keys

-- food that is at a place from a month's start on
abbrev pub stock_by : Lines PlaceLine → List Known → Record → StockLine → Result StockRecord Refusal
stock_by places commodities row line = do
  place ← reference_in row 1 places.keys
  commodity ← reference_in row 2 commodities
  Ok (record { place = place; commodity = commodity; month = line.month; kg = pos line.kg })

-- the same of the places and commodities that are there
abbrev pub stock_of : Diet → Network → Record → StockLine → Result StockRecord Refusal
stock_of diet network = stock_by network.places diet.commodities.keys
