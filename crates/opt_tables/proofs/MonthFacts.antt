-- What is known of the records of persons and of stock that are read.
use Rattle.std.proofs.Common.{◌≡◌, ◌≤◌, ℕ, ◌<◌, Bool, true, false, cond, List, [], length, Some, Result, Ok, refl, sym, ap, ◌∙◌, subst, arith, pos}
use Rattle.std.specs.Prelude.{count_by, ◌&&◌, ◌==◌}
use Rattle.std.proofs.lemmas.Bool.{and_parts, both_ways}
use Rattle.opt_base.specs.declared.refusal.File.TheVariants.{Persons, Stock}
use Rattle.opt_base.specs.Answers.{◌>>=◌}
use Rattle.opt_base.proofs.Made.{bind_ok}
use Rattle.opt_model.specs.Settings.{Settings, has_baskets}
use Rattle.opt_model.specs.declared.records.PlaceKind.TheVariants.{Point}
use Rattle.opt_model.specs.declared.records.Persons.{Persons as PersonsRecord}
use Rattle.opt_model.specs.declared.records.Stock.{Stock as StockRecord}
use Rattle.opt_tables.specs.Keys.{Known, Name, Names, NameInMonth, NamesInMonth}
use Rattle.opt_tables.specs.Records.{Record, text_in, name_in, number_in, reference_in}
use Rattle.opt_tables.specs.Network.{basket_name_in, persons_line_of, persons_key, stock_line_of, stock_key, place_of_kind_in, basket_in, persons_of, stock_of}
use Rattle.opt_tables.specs.Facts.{IsFrom, IsKilograms}
use Rattle.opt_tables.specs.declared.persons.PersonsLine.{PersonsLine}
use Rattle.opt_tables.specs.declared.stock.StockLine.{StockLine}
use Rattle.opt_tables.specs.Diet.{Diet}
use Rattle.opt_tables.specs.Network.{Network}
use Rattle.opt_tables.specs.Demand.{Demand}
use Rattle.opt_tables.proofs.Cells.{IsBetween, number_between, number_from, IsReference, reference_is, one_reference}
use Rattle.opt_tables.proofs.TableFacts.{IsMade, IsTable, one_known}
use Rattle.opt_tables.proofs.DietFacts.{same_names, alike}
use Rattle.opt_tables.proofs.NetworkFacts.{IsPlaceOf, place_of_kind_is, line_kind}

-- a record of persons that was made
abbrev pub PersonsMade : Settings → Network → Demand → ℕ → Known → PersonsRecord → Type 0
PersonsMade settings network demand k key r = IsMade (persons_line_of settings) (persons_key settings) Persons (persons_of settings network demand) network.persons k key r

-- the numbers of a line of persons are in their ranges
record IsPersonsLine (settings : Settings) (line : PersonsLine) : Type 0 where
  month : IsBetween 1 settings.months line.month
  persons : IsFrom (pos 0) (pos 10000000) (pos line.persons)

persons_line_is : (settings : Settings) (row : Record) (line : PersonsLine) → persons_line_of settings row ≡ Ok line → IsPersonsLine settings line
persons_line_is settings row line e =
    let place = bind_ok (name_in row 1) _ line e in
    let month = bind_ok (number_in row 2 1 settings.months) _ line place.2 in
    let persons = bind_ok (number_in row 3 0 10000000) _ line month.2 in
    let basket = bind_ok (basket_name_in settings row) _ line persons.2 in
    let made : PersonsLine = record { month = month.0; persons = persons.0 } in
    let same : made ≡ line = cc (basket.2) in
    subst (IsPersonsLine settings) same (record { month = number_between row 2 1 settings.months month.0 month.1; persons = number_from row 3 0 10000000 persons.0 persons.1 })

-- the basket of a record: one that is named, or the one basket
pub record IsBasketOf (settings : Settings) (demand : Demand) (name : List ℕ) (basket : ℕ) : Type 0 where
  pub own : has_baskets settings.format ≡ true → IsReference demand.baskets.keys name basket
  pub only : has_baskets settings.format ≡ false → basket ≡ 0

basket_is : (settings : Settings) (demand : Demand) (row : Record) (basket : ℕ) → basket_in settings row demand ≡ Ok basket → IsBasketOf settings demand (text_in row 4) basket
basket_is settings demand row basket e = by (has_baskets settings.format) refl e
  where
    by : (own : Bool) → has_baskets settings.format ≡ own → cond own (reference_in row 4 demand.baskets.keys) (Ok 0) ≡ Ok basket → IsBasketOf settings demand (text_in row 4) basket
    by true own f = record { own = λ _. reference_is row 4 demand.baskets.keys basket f; only = λ none. absurd (both_ways (has_baskets settings.format) none own) }
    by false own f = let same : 0 ≡ basket = cc in record { own = λ some. absurd (both_ways (has_baskets settings.format) own some); only = λ _. sym same }

pub record PersonsFacts (settings : Settings) (network : Network) (demand : Demand) (key : Known) (r : PersonsRecord) : Type 0 where
  pub place_name : List ℕ
  pub basket_name : List ℕ
  pub known : key ≡ cond (has_baskets settings.format) (NamesInMonth place_name basket_name r.month) (NameInMonth place_name r.month)
  pub place : IsReference network.places.keys place_name r.place
  pub kind : line_kind network r.place ≡ Some Point
  pub basket : IsBasketOf settings demand basket_name r.basket
  pub month : IsBetween 1 settings.months r.month
  pub persons : IsFrom (pos 0) (pos 10000000) r.persons

pub persons_facts : (settings : Settings) (network : Network) (demand : Demand) (k : ℕ) (key : Known) (r : PersonsRecord) → PersonsMade settings network demand k key r → PersonsFacts settings network demand key r
persons_facts settings network demand k key r of =
    let row : Record = of.row in
    let line : PersonsLine = of.line in
    let is : IsPersonsLine settings line = persons_line_is settings row line of.read in
    let place = bind_ok (place_of_kind_in Point row 1 network.places) _ r of.made in
    let basket = bind_ok (basket_in settings row demand) _ r place.2 in
    let made : PersonsRecord = record { place = place.0; month = line.month; persons = pos line.persons; basket = basket.0 } in
    let same : made ≡ r = cc (basket.2) in
    let stands : IsPlaceOf network (text_in row 1) Point place.0 = place_of_kind_is network Point row 1 place.0 place.1 in
    subst (PersonsFacts settings network demand key) same (record {
      place_name = text_in row 1;
      basket_name = text_in row 4;
      known = of.known;
      place = stands.is;
      kind = stands.of_kind;
      basket = basket_is settings demand row basket.0 basket.1;
      month = is.month;
      persons = is.persons;
    })

-- the key of a record of persons
abbrev key_with : Bool → List ℕ → List ℕ → ℕ → Known
key_with own place basket month = cond own (NamesInMonth place basket month) (NameInMonth place month)

same_key : (own : Bool) (place_a basket_a place_b basket_b : List ℕ) (m n : ℕ) → place_a ≡ place_b → (own ≡ true → basket_a ≡ basket_b) → m ≡ n → key_with own place_a basket_a m ≡ key_with own place_b basket_b n
same_key true place_a basket_a place_b basket_b m n e f g = let baskets : basket_a ≡ basket_b = f refl in cc
same_key false place_a basket_a place_b basket_b m n e f g = cc

-- whether a record of persons is that of a place, a basket and a month
abbrev is_persons_of : ℕ → ℕ → ℕ → PersonsRecord → Bool
is_persons_of place basket month r = (r.place == place) && (r.basket == basket) && (r.month == month)

pub persons_once : (settings : Settings) (network : Network) (demand : Demand) (records : List PersonsRecord)
    → IsTable (persons_line_of settings) (persons_key settings) Persons (persons_of settings network demand) network.persons records
    → (place basket month : ℕ) → count_by (is_persons_of place basket month) records ≤ 1
persons_once settings network demand records is place basket month =
    one_known (persons_line_of settings) (persons_key settings) Persons (persons_of settings network demand) network.persons (is_persons_of place basket month) records is
    (λ i j first second r s of_r of_s e f.
    let a = persons_facts settings network demand i first r of_r in
    let b = persons_facts settings network demand j second s of_s in
    let x = and_parts ((r.place == place) && (r.basket == basket)) (r.month == month) e in
    let y = and_parts ((s.place == place) && (s.basket == basket)) (s.month == month) f in
    let u = and_parts (r.place == place) (r.basket == basket) x.0 in
    let v = and_parts (s.place == place) (s.basket == basket) y.0 in
    let own : Bool = has_baskets settings.format in
    let places : a.place_name ≡ b.place_name = one_reference network.places.keys a.place_name b.place_name r.place s.place (alike r.place s.place place u.0 v.0) a.place b.place in
    let baskets : own ≡ true → a.basket_name ≡ b.basket_name = λ some. one_reference demand.baskets.keys a.basket_name b.basket_name r.basket s.basket (alike r.basket s.basket basket u.1 v.1) (a.basket.own some) (b.basket.own some) in
    a.known ∙ (same_key own a.place_name a.basket_name b.place_name b.basket_name r.month s.month places baskets (alike r.month s.month month x.1 y.1) ∙ sym b.known))

-- a record of stock that was made
abbrev pub StockMade : Settings → Diet → Network → ℕ → Known → StockRecord → Type 0
StockMade settings diet network k key r = IsMade (stock_line_of settings) stock_key Stock (stock_of diet network) network.stock k key r

-- the numbers of a line of stock are in their ranges
record IsStockLine (settings : Settings) (line : StockLine) : Type 0 where
  month : IsBetween 1 settings.months line.month
  kg : IsKilograms (pos line.kg)

stock_line_is : (settings : Settings) (row : Record) (line : StockLine) → stock_line_of settings row ≡ Ok line → IsStockLine settings line
stock_line_is settings row line e =
    let place = bind_ok (name_in row 1) _ line e in
    let commodity = bind_ok (name_in row 2) _ line place.2 in
    let month = bind_ok (number_in row 3 1 settings.months) _ line commodity.2 in
    let kg = bind_ok (number_in row 4 0 1000000000) _ line month.2 in
    let made : StockLine = record { month = month.0; kg = kg.0 } in
    let same : made ≡ line = cc (kg.2) in
    subst (IsStockLine settings) same (record { month = number_between row 3 1 settings.months month.0 month.1; kg = number_from row 4 0 1000000000 kg.0 kg.1 })

pub record StockFacts (settings : Settings) (diet : Diet) (network : Network) (key : Known) (r : StockRecord) : Type 0 where
  pub place_name : List ℕ
  pub commodity_name : List ℕ
  pub known : key ≡ NamesInMonth place_name commodity_name r.month
  pub place : IsReference network.places.keys place_name r.place
  pub commodity : IsReference diet.commodities.keys commodity_name r.commodity
  pub month : IsBetween 1 settings.months r.month
  pub kg : IsKilograms r.kg

pub stock_facts : (settings : Settings) (diet : Diet) (network : Network) (k : ℕ) (key : Known) (r : StockRecord) → StockMade settings diet network k key r → StockFacts settings diet network key r
stock_facts settings diet network k key r of =
    let row : Record = of.row in
    let line : StockLine = of.line in
    let is : IsStockLine settings line = stock_line_is settings row line of.read in
    let place = bind_ok (reference_in row 1 network.places.keys) _ r of.made in
    let commodity = bind_ok (reference_in row 2 diet.commodities.keys) _ r place.2 in
    let made : StockRecord = record { place = place.0; commodity = commodity.0; month = line.month; kg = pos line.kg } in
    let same : made ≡ r = cc (commodity.2) in
    subst (StockFacts settings diet network key) same (record {
      place_name = text_in row 1;
      commodity_name = text_in row 2;
      known = of.known;
      place = reference_is row 1 network.places.keys place.0 place.1;
      commodity = reference_is row 2 diet.commodities.keys commodity.0 commodity.1;
      month = is.month;
      kg = is.kg;
    })

-- whether a record of stock is that of a place, a commodity and a month
abbrev is_stock_of : ℕ → ℕ → ℕ → StockRecord → Bool
is_stock_of place commodity month r = (r.place == place) && (r.commodity == commodity) && (r.month == month)

pub stock_once : (settings : Settings) (diet : Diet) (network : Network) (records : List StockRecord)
    → IsTable (stock_line_of settings) stock_key Stock (stock_of diet network) network.stock records
    → (place commodity month : ℕ) → count_by (is_stock_of place commodity month) records ≤ 1
stock_once settings diet network records is place commodity month =
    one_known (stock_line_of settings) stock_key Stock (stock_of diet network) network.stock (is_stock_of place commodity month) records is
    (λ i j first second r s of_r of_s e f.
    let a = stock_facts settings diet network i first r of_r in
    let b = stock_facts settings diet network j second s of_s in
    let x = and_parts ((r.place == place) && (r.commodity == commodity)) (r.month == month) e in
    let y = and_parts ((s.place == place) && (s.commodity == commodity)) (s.month == month) f in
    let u = and_parts (r.place == place) (r.commodity == commodity) x.0 in
    let v = and_parts (s.place == place) (s.commodity == commodity) y.0 in
    let places : a.place_name ≡ b.place_name = one_reference network.places.keys a.place_name b.place_name r.place s.place (alike r.place s.place place u.0 v.0) a.place b.place in
    let commodities : a.commodity_name ≡ b.commodity_name = one_reference diet.commodities.keys a.commodity_name b.commodity_name r.commodity s.commodity (alike r.commodity s.commodity commodity u.1 v.1) a.commodity b.commodity in
    a.known ∙ (same_key true a.place_name a.commodity_name b.place_name b.commodity_name r.month s.month places (λ _. commodities) (alike r.month s.month month x.1 y.1) ∙ sym b.known))
