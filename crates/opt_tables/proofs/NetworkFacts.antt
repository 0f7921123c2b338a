-- What is known of the records of the tables of the network that are read.
use Rattle.std.proofs.Common.{◌≡◌, ◌≢◌, ◌≤◌, ℕ, ◌<◌, Bool, true, false, cond, List, [], length, Option, Some, None, Result, Ok, refl, sym, ap, ◌∙◌, subst, arith, ℤ, pos}
use Rattle.std.specs.Prelude.{count_by, slice_get, IfSome, ◌&&◌, ◌||◌, ◌==◌, option_map}
use Rattle.std.specs.Option.{option_map_or}
use Rattle.std.proofs.lemmas.Bool.{and_parts, eq-eqb, both_ways}
use Rattle.opt_base.specs.declared.refusal.File.TheVariants.{Places, Offers, Arcs, Persons, Stock}
use Rattle.opt_base.specs.declared.refusal.Kind.TheVariants.{WrongPlaceKind}
use Rattle.opt_base.specs.Answers.{◌>>=◌}
use Rattle.opt_base.proofs.Made.{bind_ok, when_ok, unless_ok}
use Rattle.opt_model.specs.Settings.{Settings, has_baskets, has_lots}
use Rattle.opt_model.specs.declared.records.PlaceKind.{PlaceKind}
use Rattle.opt_model.specs.declared.records.PlaceKind.TheVariants.{Supplier, Port, Hub, Point}
use Rattle.opt_model.specs.declared.records.Place.{Place}
use Rattle.opt_model.specs.declared.records.Offer.{Offer}
use Rattle.opt_model.specs.declared.records.Arc.{Arc}
use Rattle.opt_model.specs.declared.records.Persons.{Persons as PersonsRecord}
use Rattle.opt_model.specs.declared.records.Stock.{Stock as StockRecord}
use Rattle.opt_tables.specs.Keys.{Known, Name, Names, NameInMonth, NamesInMonth}
use Rattle.opt_tables.specs.Records.{Record, refused_at, text_in, name_in, number_in, optional_number_in, kind_in, reference_in}
use Rattle.opt_tables.specs.Lines.{Lines, name_key}
use Rattle.opt_tables.specs.Network.{place_line_of, lot_in, offer_line_of, arc_line_of, basket_name_in, persons_line_of, persons_key, stock_line_of, stock_key, are_same_kind, has_kind, place_of_kind_in, end_in, place_of, offer_of, arc_of, basket_in, persons_of, stock_of}
use Rattle.opt_tables.specs.Facts.{IsFrom, IsCleanName, IsKilograms, IsPrice, IsPlace, HasNoLot}
use Rattle.opt_tables.specs.declared.places.PlaceLine.{PlaceLine}
use Rattle.opt_tables.specs.declared.offers.OfferLine.{OfferLine}
use Rattle.opt_tables.specs.declared.offers.Lot.{Lot}
use Rattle.opt_tables.specs.declared.offers.TheConstants.{FEE_LIMIT}
use Rattle.opt_tables.specs.declared.arcs.ArcLine.{ArcLine}
use Rattle.opt_tables.specs.declared.persons.PersonsLine.{PersonsLine}
use Rattle.opt_tables.specs.declared.stock.StockLine.{StockLine}
use Rattle.opt_tables.specs.Diet.{Diet}
use Rattle.opt_tables.specs.Network.{Network}
use Rattle.opt_tables.specs.Demand.{Demand}
use Rattle.opt_tables.proofs.Cells.{clean_name, IsBetween, number_between, from_between, number_from, optional_number_from, IsReference, reference_is, one_reference}
use Rattle.opt_tables.proofs.TableFacts.{IsMade, IsTable, one_known}
use Rattle.opt_tables.proofs.DietFacts.{same_names, alike}

-- a place that was made
abbrev pub PlaceMade : Network → ℕ → Known → Place → Type 0
PlaceMade network k key r = IsMade place_line_of name_key Places place_of network.places k key r

-- the numbers of a place's line are in their ranges
record IsPlaceLine (line : PlaceLine) : Type 0 where
  storage : IsKilograms (pos line.storage)
  throughput : IfSome (option_map pos line.throughput) IsKilograms
  handling : IsPrice (pos line.handling)
  storage_cost : IsPrice (pos line.storage_cost)

place_line_is : (row : Record) (line : PlaceLine) → place_line_of row ≡ Ok line → IsPlaceLine line
place_line_is row line e =
    let name = bind_ok (name_in row 1) _ line e in
    let kind = bind_ok (kind_in row 2) _ line name.2 in
    let storage = bind_ok (number_in row 3 0 1000000000) _ line kind.2 in
    let throughput = bind_ok (optional_number_in row 4 0 1000000000) _ line storage.2 in
    let handling = bind_ok (number_in row 5 0 1000000) _ line throughput.2 in
    let cost = bind_ok (number_in row 6 0 1000000) _ line handling.2 in
    let made : PlaceLine = record { kind = kind.0; storage = storage.0; throughput = throughput.0; handling = handling.0; storage_cost = cost.0 } in
    let same : made ≡ line = cc (cost.2) in
    subst IsPlaceLine same (record {
      storage = number_from row 3 0 1000000000 storage.0 storage.1;
      throughput = optional_number_from row 4 0 1000000000 throughput.0 throughput.1;
      handling = number_from row 5 0 1000000 handling.0 handling.1;
      storage_cost = number_from row 6 0 1000000 cost.0 cost.1;
    })

pub record PlaceFacts (network : Network) (k : ℕ) (key : Known) (r : Place) : Type 0 where
  pub known : key ≡ Name r.place
  pub name : IsCleanName r.place
  pub kind : option_map (λ (line : PlaceLine). line.kind) (slice_get network.places.lines k) ≡ Some r.kind
  pub numbers : IsPlace r

pub place_facts : (network : Network) (k : ℕ) (key : Known) (r : Place) → PlaceMade network k key r → PlaceFacts network k key r
place_facts network k key r of =
    let line : PlaceLine = of.line in
    let is : IsPlaceLine line = place_line_is of.row line of.read in
    let made : Place = record { place = text_in of.row 1; kind = line.kind; storage = pos line.storage; throughput = option_map pos line.throughput; handling = pos line.handling; storage_cost = pos line.storage_cost } in
    let same : made ≡ r = cc (of.made) in
    subst (PlaceFacts network k key) same (record {
      known = of.known;
      name = clean_name of.row 1 _ line (of.clean 1) of.read;
      kind = ap (option_map (λ (other : PlaceLine). other.kind)) of.there;
      numbers = record { storage = is.storage; throughput = is.throughput; handling = is.handling; storage_cost = is.storage_cost };
    })

-- two kinds that are the same are one
same_kind : (a b : PlaceKind) → are_same_kind a b ≡ true → a ≡ b
same_kind Supplier Supplier e = refl
same_kind Port Port e = refl
same_kind Hub Hub e = refl
same_kind Point Point e = refl
same_kind Supplier Port e = cc
same_kind Supplier Hub e = cc
same_kind Supplier Point e = cc
same_kind Port Supplier e = cc
same_kind Port Hub e = cc
same_kind Port Point e = cc
same_kind Hub Supplier e = cc
same_kind Hub Port e = cc
same_kind Hub Point e = cc
same_kind Point Supplier e = cc
same_kind Point Port e = cc
same_kind Point Hub e = cc

itself : (kind : PlaceKind) → are_same_kind kind kind ≡ true
itself Supplier = refl
itself Port = refl
itself Hub = refl
itself Point = refl

-- the kind of the line of a place
abbrev pub line_kind : Network → ℕ → Option PlaceKind
line_kind network place = option_map (λ (line : PlaceLine). line.kind) (slice_get network.places.lines place)

kind_by : (kind : PlaceKind) (found : Option PlaceLine) → option_map_or (λ (line : PlaceLine). are_same_kind line.kind kind) found false ≡ true → option_map (λ (line : PlaceLine). line.kind) found ≡ Some kind
kind_by kind None e = cc
kind_by kind (Some line) e = ap Some (same_kind line.kind kind e)

by_kind : (kind : PlaceKind) (found : Option PlaceLine) → option_map (λ (line : PlaceLine). line.kind) found ≡ Some kind → option_map_or (λ (line : PlaceLine). are_same_kind line.kind kind) found false ≡ true
by_kind kind None e = cc
by_kind kind (Some line) e = let same : line.kind ≡ kind = cc in subst (λ (k : PlaceKind). are_same_kind k kind ≡ true) (sym same) (itself kind)

-- a place that a column names, which is of a kind
pub record IsPlaceOf (network : Network) (name : List ℕ) (kind : PlaceKind) (place : ℕ) : Type 0 where
  pub is : IsReference network.places.keys name place
  pub of_kind : line_kind network place ≡ Some kind

pub place_of_kind_is : (network : Network) (kind : PlaceKind) (row : Record) (column place : ℕ) → place_of_kind_in kind row column network.places ≡ Ok place → IsPlaceOf network (text_in row column) kind place
place_of_kind_is network kind row column place e =
    let found = bind_ok (reference_in row column network.places.keys) _ place e in
    let right = when_ok (has_kind kind network.places found.0) (Ok found.0) (refused_at row column WrongPlaceKind) place found.2 in
    let same : found.0 ≡ place = cc (right.1) in
    subst (IsPlaceOf network (text_in row column) kind) same (record { is = reference_is row column network.places.keys found.0 found.1; of_kind = kind_by kind (slice_get network.places.lines found.0) right.0 })

-- an offer that was made
abbrev pub OfferMade : Settings → Diet → Network → ℕ → Known → Offer → Type 0
OfferMade settings diet network k key r = IsMade (offer_line_of settings) name_key Offers (offer_of diet network) network.offers k key r

-- a fee and a least lot are in their ranges, and 0 in a format without them
record IsLot (settings : Settings) (lot : Lot) : Type 0 where
  fee : IsFrom (pos 0) (pos FEE_LIMIT) lot.fee
  least : IsKilograms (pos lot.least)
  none : has_lots settings.format ≡ false → (lot.fee ≡ pos 0) × (lot.least ≡ 0)

lot_is : (settings : Settings) (row : Record) (lot : Lot) → lot_in settings row ≡ Ok lot → IsLot settings lot
lot_is settings row lot e = by (has_lots settings.format) refl e
  where
    by : (own : Bool) → has_lots settings.format ≡ own
        → cond own (number_in row 8 0 FEE_LIMIT >>= λ fee. number_in row 9 0 1000000000 >>= λ least. Ok (record { fee = pos fee; least = least })) (Ok (record { fee = pos 0; least = 0 })) ≡ Ok lot
        → IsLot settings lot
    by true own f =
        let fee = bind_ok (number_in row 8 0 FEE_LIMIT) _ lot f in
        let least = bind_ok (number_in row 9 0 1000000000) _ lot fee.2 in
        let made : Lot = record { fee = pos fee.0; least = least.0 } in
        let same : made ≡ lot = cc (least.2) in
        subst (IsLot settings) same (record {
          fee = number_from row 8 0 FEE_LIMIT fee.0 fee.1;
          least = number_from row 9 0 1000000000 least.0 least.1;
          none = λ none. absurd (both_ways (has_lots settings.format) none own);
        })
    by false own f =
        let made : Lot = record { fee = pos 0; least = 0 } in
        let same : made ≡ lot = cc in
        subst (IsLot settings) same (record {
          fee = from_between 0 FEE_LIMIT 0 (record { above = omega arith; below = omega arith });
          least = from_between 0 1000000000 0 (record { above = omega arith; below = omega arith });
          none = λ none. (refl, refl);
        })

-- the numbers of an offer's line are in their ranges
record IsOfferLine (settings : Settings) (line : OfferLine) : Type 0 where
  price : IsPrice (pos line.price)
  max_kg : IsKilograms (pos line.max_kg)
  first : IsBetween 1 36 line.first
  last : IsBetween 1 36 line.last
  lot : IsLot settings line.lot

offer_line_is : (settings : Settings) (row : Record) (line : OfferLine) → offer_line_of settings row ≡ Ok line → IsOfferLine settings line
offer_line_is settings row line e =
    let name = bind_ok (name_in row 1) _ line e in
    let place = bind_ok (name_in row 2) _ line name.2 in
    let commodity = bind_ok (name_in row 3) _ line place.2 in
    let price = bind_ok (number_in row 4 0 1000000) _ line commodity.2 in
    let most = bind_ok (number_in row 5 0 1000000000) _ line price.2 in
    let first = bind_ok (number_in row 6 1 36) _ line most.2 in
    let last = bind_ok (number_in row 7 1 36) _ line first.2 in
    let lot = bind_ok (lot_in settings row) _ line last.2 in
    let made : OfferLine = record { price = price.0; max_kg = most.0; first = first.0; last = last.0; lot = lot.0 } in
    let same : made ≡ line = cc (lot.2) in
    subst (IsOfferLine settings) same (record {
      price = number_from row 4 0 1000000 price.0 price.1;
      max_kg = number_from row 5 0 1000000000 most.0 most.1;
      first = number_between row 6 1 36 first.0 first.1;
      last = number_between row 7 1 36 last.0 last.1;
      lot = lot_is settings row lot.0 lot.1;
    })

pub record OfferFacts (settings : Settings) (diet : Diet) (network : Network) (key : Known) (r : Offer) : Type 0 where
  pub known : key ≡ Name r.offer
  pub name : IsCleanName r.offer
  pub place : r.place < length network.places.keys
  pub kind : line_kind network r.place ≡ Some Supplier
  pub commodity : r.commodity < length diet.commodities.keys
  pub price : IsPrice r.price
  pub max_kg : IsKilograms r.max_kg
  pub first : IsBetween 1 36 r.first
  pub last : IsBetween 1 36 r.last
  pub fee : IsFrom (pos 0) (pos FEE_LIMIT) r.fee
  pub least : IsKilograms r.least
  pub none : has_lots settings.format ≡ false → HasNoLot r

pub offer_facts : (settings : Settings) (diet : Diet) (network : Network) (k : ℕ) (key : Known) (r : Offer) → OfferMade settings diet network k key r → OfferFacts settings diet network key r
offer_facts settings diet network k key r of =
    let row : Record = of.row in
    let line : OfferLine = of.line in
    let is : IsOfferLine settings line = offer_line_is settings row line of.read in
    let place = bind_ok (place_of_kind_in Supplier row 2 network.places) _ r of.made in
    let commodity = bind_ok (reference_in row 3 diet.commodities.keys) _ r place.2 in
    let made : Offer = record { offer = text_in row 1; place = place.0; commodity = commodity.0; price = pos line.price; max_kg = pos line.max_kg; first = line.first; last = line.last; fee = line.lot.fee; least = pos line.lot.least } in
    let same : made ≡ r = cc (commodity.2) in
    let stands : IsPlaceOf network (text_in row 2) Supplier place.0 = place_of_kind_is network Supplier row 2 place.0 place.1 in
    subst (OfferFacts settings diet network key) same (record {
      known = of.known;
      name = clean_name row 1 _ line (of.clean 1) of.read;
      place = stands.is.there;
      kind = stands.of_kind;
      commodity = (reference_is row 3 diet.commodities.keys commodity.0 commodity.1).there;
      price = is.price;
      max_kg = is.max_kg;
      first = is.first;
      last = is.last;
      fee = is.lot.fee;
      least = is.lot.least;
      none = λ none. record { fee = (is.lot.none none).0; least = ap pos (is.lot.none none).1 };
    })

-- an arc that was made
abbrev pub ArcMade : Network → ℕ → Known → Arc → Type 0
ArcMade network k key r = IsMade arc_line_of name_key Arcs (arc_of network) network.arcs k key r

-- the numbers of an arc's line are in their ranges
record IsArcLine (line : ArcLine) : Type 0 where
  cost : IsPrice (pos line.cost)
  capacity : IsKilograms (pos line.capacity)
  lead : line.lead ≤ 12

arc_line_is : (row : Record) (line : ArcLine) → arc_line_of row ≡ Ok line → IsArcLine line
arc_line_is row line e =
    let name = bind_ok (name_in row 1) _ line e in
    let start = bind_ok (name_in row 2) _ line name.2 in
    let end = bind_ok (name_in row 3) _ line start.2 in
    let cost = bind_ok (number_in row 4 0 1000000) _ line end.2 in
    let capacity = bind_ok (number_in row 5 0 1000000000) _ line cost.2 in
    let lead = bind_ok (number_in row 6 0 12) _ line capacity.2 in
    let made : ArcLine = record { cost = cost.0; capacity = capacity.0; lead = lead.0 } in
    let same : made ≡ line = cc (lead.2) in
    subst IsArcLine same (record {
      cost = number_from row 4 0 1000000 cost.0 cost.1;
      capacity = number_from row 5 0 1000000000 capacity.0 capacity.1;
      lead = (number_between row 6 0 12 lead.0 lead.1).below;
    })

-- where an arc from a place ends: at another place that is no supplier
record IsEnd (network : Network) (start place : ℕ) : Type 0 where
  there : place < length network.places.keys
  kind : line_kind network place ≢ Some Supplier
  apart : place ≢ start

or_none : (a b : Bool) → (a || b) ≡ false → (a ≡ false) × (b ≡ false)
or_none true b e = cc
or_none false b e = (refl, e)

end_is : (network : Network) (row : Record) (column start place : ℕ) → end_in row column network.places start ≡ Ok place → IsEnd network start place
end_is network row column start place e =
    let found = bind_ok (reference_in row column network.places.keys) _ place e in
    let supplier : Bool = has_kind Supplier network.places found.0 in
    let right = unless_ok (supplier || (found.0 == start)) (Ok found.0) (refused_at row column WrongPlaceKind) place found.2 in
    let none = or_none supplier (found.0 == start) right.0 in
    let same : found.0 ≡ place = cc (right.1) in
    subst (IsEnd network start) same (record {
      there = (reference_is row column network.places.keys found.0 found.1).there;
      kind = λ kind. both_ways supplier none.0 (by_kind Supplier (slice_get network.places.lines found.0) kind);
      apart = λ one. both_ways (found.0 == start) none.1 (eq-eqb found.0 start one);
    })

pub record ArcFacts (network : Network) (key : Known) (r : Arc) : Type 0 where
  pub known : key ≡ Name r.arc
  pub name : IsCleanName r.arc
  pub from_place : r.from_place < length network.places.keys
  pub to_place : r.to_place < length network.places.keys
  pub kind : line_kind network r.to_place ≢ Some Supplier
  pub apart : r.to_place ≢ r.from_place
  pub cost : IsPrice r.cost
  pub capacity : IsKilograms r.capacity
  pub lead : r.lead ≤ 12

pub arc_facts : (network : Network) (k : ℕ) (key : Known) (r : Arc) → ArcMade network k key r → ArcFacts network key r
arc_facts network k key r of =
    let row : Record = of.row in
    let line : ArcLine = of.line in
    let is : IsArcLine line = arc_line_is row line of.read in
    let start = bind_ok (reference_in row 2 network.places.keys) _ r of.made in
    let end = bind_ok (end_in row 3 network.places start.0) _ r start.2 in
    let made : Arc = record { arc = text_in row 1; from_place = start.0; to_place = end.0; cost = pos line.cost; capacity = pos line.capacity; lead = line.lead } in
    let same : made ≡ r = cc (end.2) in
    let ends : IsEnd network start.0 end.0 = end_is network row 3 start.0 end.0 end.1 in
    subst (ArcFacts network key) same (record {
      known = of.known;
      name = clean_name row 1 _ line (of.clean 1) of.read;
      from_place = (reference_is row 2 network.places.keys start.0 start.1).there;
      to_place = ends.there;
      kind = ends.kind;
      apart = ends.apart;
      cost = is.cost;
      capacity = is.capacity;
      lead = is.lead;
    })
