-- The model that the files of a folder stand for, or their first refusal.
use Rattle.std.specs.Prelude.{Result, Ok}
use Rattle.opt_base.specs.declared.refusal.File.TheVariants.{Settings}
use Rattle.opt_base.specs.declared.refusal.Refusal.{Refusal}
use Rattle.opt_base.specs.Answers.{◌>>=◌}
use Rattle.opt_model.specs.Settings.{Settings as SettingsOf}
use Rattle.opt_model.specs.Tables.{Tables}
use Rattle.opt_read.specs.Settings.{settings_of}
use Rattle.opt_tables.specs.Files.{ModelFiles, bytes_of, all_checked}
use Rattle.opt_tables.specs.Grids.{diet_grids_of, network_grids_of, demand_grids_of}
use Rattle.opt_tables.specs.Lines.{records_of}
use Rattle.opt_tables.specs.Diet.{Diet, DietGrids, DietTables, diet_of, commodity_of, group_of, nutrient_of, content_of}
use Rattle.opt_tables.specs.Network.{Network, NetworkGrids, NetworkTables, network_of, place_of, offer_of, arc_of, persons_of, stock_of}
use Rattle.opt_tables.specs.Demand.{Demand, DemandGrids, DemandTables, demand_of, demand_records_of}

-- the records of the diet, with the numbers of those that they name
unfoldable pub diet_records_of : Diet → Result DietTables Refusal
diet_records_of diet = do
  commodities ← records_of (commodity_of diet) diet.commodities
  groups ← records_of group_of diet.groups
  nutrients ← records_of nutrient_of diet.nutrients
  contents ← records_of (content_of diet) diet.contents
  Ok (record { commodities = commodities; groups = groups; nutrients = nutrients; contents = contents })

-- the records of the network, with the numbers of those that they name
unfoldable pub network_records_of : SettingsOf → Diet → Network → Demand → Result NetworkTables Refusal
network_records_of settings diet network demand = do
  places ← records_of place_of network.places
  offers ← records_of (offer_of diet network) network.offers
  arcs ← records_of (arc_of network) network.arcs
  persons ← records_of (persons_of settings network demand) network.persons
  stock ← records_of (stock_of diet network) network.stock
  Ok (record { places = places; offers = offers; arcs = arcs; persons = persons; stock = stock })

-- the tables of these records
abbrev pub tables_with : SettingsOf → DietTables → NetworkTables → DemandTables → Tables
tables_with settings diet network demand = record {
  settings = settings;
  commodities = diet.commodities;
  groups = diet.groups;
  nutrients = diet.nutrients;
  contents = diet.contents;
  places = network.places;
  offers = network.offers;
  arcs = network.arcs;
  persons = network.persons;
  stock = network.stock;
  baskets = demand.baskets;
  needs = demand.needs;
}

-- the tables, given what their records say but for the records that they name
unfoldable pub linked_of : SettingsOf → Diet → Network → Demand → Result Tables Refusal
linked_of settings diet network demand = do
  diet_records ← diet_records_of diet
  network_records ← network_records_of settings diet network demand
  demand_records ← demand_records_of settings diet demand
  Ok (tables_with settings diet_records network_records demand_records)

-- the tables, given the settings and how the tables are split into fields
unfoldable pub tables_in : SettingsOf → DietGrids → NetworkGrids → DemandGrids → Result Tables Refusal
tables_in settings diet_grids network_grids demand_grids = do
  diet ← diet_of settings diet_grids
  network ← network_of settings network_grids
  demand ← demand_of settings demand_grids
  linked_of settings diet network demand

-- the tables, given the settings
abbrev pub tables_from : ModelFiles → SettingsOf → Result Tables Refusal
tables_from files settings =
    tables_in settings (diet_grids_of files settings.format) (network_grids_of files settings.format) (demand_grids_of files settings.format)

-- the model, or the first refusal: of the files as wholes, of the settings, of the tables' records, of their references
unfoldable pub tables_of : ModelFiles → Result Tables Refusal
tables_of files = do
  checked ← all_checked files
  settings ← settings_of (bytes_of files Settings)
  tables_from files settings
