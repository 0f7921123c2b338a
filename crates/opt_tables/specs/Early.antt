-- The tables in the order in which they are computed: records whose tables nothing names are looked up as soon as those tables are
-- judged that they name, and what they refuse waits. It is the model that the files stand for (proofs/EarlyLinks.antt).
use Rattle.std.specs.Prelude.{List, [], ◌∷◌, Result, Ok, if◌then◌else◌}
use Rattle.opt_base.specs.declared.refusal.File.TheVariants.{Commodities, Groups, Nutrients, Contents, Places, Offers, Arcs, Persons, Stock, Baskets, Needs}
use Rattle.opt_base.specs.declared.refusal.Refusal.{Refusal}
use Rattle.opt_base.specs.Answers.{◌>>=◌}
use Rattle.opt_model.specs.Settings.{Settings, has_baskets}
use Rattle.opt_model.specs.Tables.{Tables}
use Rattle.opt_model.specs.declared.records.Need.{Need}
use Rattle.opt_model.specs.declared.records.Offer.{Offer}
use Rattle.opt_model.specs.declared.records.Arc.{Arc}
use Rattle.opt_model.specs.declared.records.Persons.{Persons as PersonsRecord}
use Rattle.opt_model.specs.declared.records.Stock.{Stock as StockRecord}
use Rattle.opt_tables.specs.Files.{ModelFiles}
use Rattle.opt_tables.specs.Grids.{rows_in}
use Rattle.opt_tables.specs.Lines.{Lines, lines_in, name_key, records_of, records_in}
use Rattle.opt_tables.specs.Diet.{DietTables, commodity_lines_in, group_line_of, nutrient_line_of, content_line_of, content_key, commodity_by, group_of, nutrient_of, content_by}
use Rattle.opt_tables.specs.Network.{NetworkTables, place_line_of, offer_line_of, arc_line_of, persons_line_of, persons_key, stock_line_of, stock_key, place_of, offer_by, arc_by, persons_by, stock_by}
use Rattle.opt_tables.specs.Demand.{DemandTables, basket_lines_in, need_line_of, need_key, basket_of, need_by, only_basket, needs_from}
use Rattle.opt_tables.specs.Model.{tables_with}
use Rattle.opt_tables.specs.declared.baskets.BasketLine.{BasketLine}
use Rattle.opt_tables.specs.declared.nutrients.NutrientLine.{NutrientLine}
use Rattle.opt_tables.specs.declared.persons.PersonsLine.{PersonsLine}
use Rattle.opt_tables.specs.declared.places.PlaceLine.{PlaceLine}
use Rattle.opt_tables.specs.declared.diet.DietGrids.{DietGrids}
use Rattle.opt_tables.specs.declared.diet.DietNames.{DietNames}
use Rattle.opt_tables.specs.declared.diet.Diet.{Diet}
use Rattle.opt_tables.specs.declared.network.NetworkGrids.{NetworkGrids}
use Rattle.opt_tables.specs.declared.network.Network.{Network}
use Rattle.opt_tables.specs.declared.demand.DemandGrids.{DemandGrids}
use Rattle.opt_tables.specs.declared.demand.Demand.{Demand}

-- commodities, groups and nutrients, or their first refusal
unfoldable pub diet_names_of : Settings → DietGrids → Result DietNames Refusal
diet_names_of settings grids = do
  commodities ← commodity_lines_in grids.commodities
  groups ← lines_in group_line_of name_key Groups grids.groups
  nutrients ← lines_in (nutrient_line_of settings) name_key Nutrients grids.nutrients
  Ok (record { commodities = commodities; groups = groups; nutrients = nutrients })

-- these and the contents
unfoldable pub diet_read : ModelFiles → Settings → DietGrids → Result Diet Refusal
diet_read files settings grids = do
  names ← diet_names_of settings grids
  contents ← records_in content_line_of content_key (content_by names.commodities.keys names.nutrients.keys) Contents (rows_in files settings.format Contents)
  Ok (record { names = names; contents = contents })

-- the tables of the network, and the lines of persons, whose baskets are not judged yet
unfoldable pub network_read : ModelFiles → Settings → NetworkGrids → Diet → Result (Network × Lines PersonsLine) Refusal
network_read files settings grids diet = do
  places ← lines_in place_line_of name_key Places grids.places
  offers ← records_in (offer_line_of settings) name_key (offer_by places diet.names.commodities.keys) Offers (rows_in files settings.format Offers)
  arcs ← records_in arc_line_of name_key (arc_by places) Arcs (rows_in files settings.format Arcs)
  persons ← lines_in (persons_line_of settings) (persons_key settings) Persons grids.persons
  stock ← records_in (stock_line_of settings) stock_key (stock_by places diet.names.commodities.keys) Stock (rows_in files settings.format Stock)
  Ok (record { names = record { diet = diet; places = places }; offers = offers; arcs = arcs; stock = stock }, persons)

-- the tables of the demand, and persons
unfoldable pub demand_read : ModelFiles → Settings → DemandGrids → Network → Lines PersonsLine → Result Demand Refusal
demand_read files settings grids network persons = do
  baskets ← basket_lines_in settings grids.baskets
  needs ← records_in need_line_of need_key (need_by baskets.keys network.names.diet.names.nutrients.keys) Needs (rows_in files settings.format Needs)
  Ok (record {
    names = record { network = network; baskets = baskets };
    persons = records_of (persons_by settings network.names.places baskets.keys) persons;
    needs = needs;
  })

-- the records of the diet, or the first refusal of what they name
unfoldable pub diet_linked : Diet → Result DietTables Refusal
diet_linked diet = do
  commodities ← records_of (commodity_by diet.names.groups.keys) diet.names.commodities
  groups ← records_of group_of diet.names.groups
  nutrients ← records_of nutrient_of diet.names.nutrients
  contents ← diet.contents
  Ok (record { commodities = commodities; groups = groups; nutrients = nutrients; contents = contents })

-- the records of the network
unfoldable pub network_linked : Lines PlaceLine → Result (List Offer) Refusal → Result (List Arc) Refusal → Result (List PersonsRecord) Refusal → Result (List StockRecord) Refusal → Result NetworkTables Refusal
network_linked lines early_offers early_arcs early_persons early_stock = do
  places ← records_of place_of lines
  offers ← early_offers
  arcs ← early_arcs
  persons ← early_persons
  stock ← early_stock
  Ok (record { places = places; offers = offers; arcs = arcs; persons = persons; stock = stock })

-- what the one basket must give, in a format without baskets of its own
abbrev pub only_needs_in : Settings → Lines NutrientLine → List Need
only_needs_in settings nutrients = if has_baskets settings.format then [] else needs_from 0 nutrients.lines

-- the records of baskets and needs
abbrev pub own_linked : Lines BasketLine → Result (List Need) Refusal → Result DemandTables Refusal
own_linked lines early_needs = do
  baskets ← records_of basket_of lines
  needs ← early_needs
  Ok (record { baskets = baskets; needs = needs })

-- the records of the demand under a format
unfoldable pub demand_linked : Settings → Lines BasketLine → Result (List Need) Refusal → List Need → Result DemandTables Refusal
demand_linked settings baskets needs only =
    if has_baskets settings.format then own_linked baskets needs else Ok (record { baskets = only_basket ∷ []; needs = only })

-- the records of all tables
unfoldable pub tables_linked : Settings → Demand → Result Tables Refusal
tables_linked settings demand = do
  diets ← diet_linked demand.names.network.names.diet
  networks ← network_linked demand.names.network.names.places demand.names.network.offers demand.names.network.arcs demand.persons demand.names.network.stock
  demands ← demand_linked settings demand.names.baskets demand.needs (only_needs_in settings demand.names.network.names.diet.names.nutrients)
  Ok (tables_with settings diets networks demands)

-- the tables, given the settings and how those tables are split into fields that are kept for long
unfoldable pub tables_read : ModelFiles → Settings → DietGrids → NetworkGrids → DemandGrids → Result Tables Refusal
tables_read files settings diet_grids network_grids demand_grids = do
  diet ← diet_read files settings diet_grids
  network ← network_read files settings network_grids diet
  demand ← demand_read files settings demand_grids network.0 network.1
  tables_linked settings demand

-- the tables of the diet that are kept for long
abbrev pub diet_grids_in : ModelFiles → Settings → DietGrids
diet_grids_in files settings = record { commodities = rows_in files settings.format Commodities; groups = rows_in files settings.format Groups; nutrients = rows_in files settings.format Nutrients }

-- those of the network
abbrev pub network_grids_in : ModelFiles → Settings → NetworkGrids
network_grids_in files settings = record { places = rows_in files settings.format Places; persons = rows_in files settings.format Persons }

-- that of the demand
abbrev pub demand_grids_in : ModelFiles → Settings → DemandGrids
demand_grids_in files settings = record { baskets = rows_in files settings.format Baskets }
