-- The tables of a folder as they are split into fields.
use Rattle.std.specs.Prelude.{ℕ, ◌==◌, ◌&&◌, ◌||◌, not, Bool, true, List, [], length, Result, Ok, if◌then◌else◌}
use Rattle.opt_base.specs.declared.refusal.File.{File}
use Rattle.opt_base.specs.declared.refusal.File.TheVariants.{Commodities, Groups, Nutrients, Contents, Places, Offers, Arcs, Persons, Stock, Baskets, Needs}
use Rattle.opt_base.specs.declared.refusal.Refusal.{Refusal}
use Rattle.opt_model.specs.Settings.{has_baskets}
use Rattle.opt_model.specs.Columns.{columns_of}
use Rattle.opt_read.specs.Grid.{grid_of}
use Rattle.opt_tables.specs.Files.{ModelFiles, bytes_of, is_required}
use Rattle.opt_tables.specs.Diet.{DietGrids}
use Rattle.opt_tables.specs.Network.{NetworkGrids}
use Rattle.opt_tables.specs.Demand.{DemandGrids}

-- whether a format has a table; one that it has not is not read
abbrev pub is_table_of : ℕ → File → Bool
is_table_of format Baskets = has_baskets format
is_table_of format Needs = has_baskets format
is_table_of format _ = true

-- the fields of a table's records, or its first refusal; a file that need not be there and holds no byte has no records
abbrev pub rows_in : ModelFiles → ℕ → File → Result (List (List (List ℕ))) Refusal
rows_in files format file =
    if not (is_table_of format file) || (not (is_required file) && (length (bytes_of files file) == 0))
    then Ok []
    else grid_of file (bytes_of files file) (columns_of file format)

-- the tables of the diet
abbrev pub diet_grids_of : ModelFiles → ℕ → DietGrids
diet_grids_of files format =
    record { commodities = rows_in files format Commodities; groups = rows_in files format Groups; nutrients = rows_in files format Nutrients; contents = rows_in files format Contents }

-- the tables of the network
abbrev pub network_grids_of : ModelFiles → ℕ → NetworkGrids
network_grids_of files format =
    record { places = rows_in files format Places; offers = rows_in files format Offers; arcs = rows_in files format Arcs; persons = rows_in files format Persons; stock = rows_in files format Stock }

-- the tables of the demand
abbrev pub demand_grids_of : ModelFiles → ℕ → DemandGrids
demand_grids_of files format = record { baskets = rows_in files format Baskets; needs = rows_in files format Needs }
