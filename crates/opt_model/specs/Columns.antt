-- The columns of tables and the keys of the settings, by name and number.
use Rattle.std.specs.Prelude.{ℕ, ◌-◌, ◌==◌, cond, List, codes, slice_index_or, []}
use Rattle.std.specs.List.{slice_split}
use Rattle.opt_base.specs.declared.refusal.File.{File}
use Rattle.opt_base.specs.declared.refusal.File.TheVariants as file
use Rattle.opt_model.specs.declared.limits.TheConstants.{LAST_FORMAT}
use Rattle.opt_model.specs.Settings.{has_baskets, has_lots}

-- the columns that a file has under a format, parted by commas, in the order of their numbers; the keys of the settings, and
-- what a refusal of the model as a whole counts
abbrev pub columns_of : File → ℕ → List ℕ
columns_of file.Settings format = codes "format,months,days,goal,gap,nodes,budget"
columns_of file.Commodities format = codes "commodity,group,min_g,max_g,step_g"
columns_of file.Groups format = codes "group,min_g,max_g"
columns_of file.Nutrients format = cond (has_baskets format) (codes "nutrient") (codes "nutrient,required,max_short,weight")
columns_of file.Contents format = codes "commodity,nutrient,per_100g"
columns_of file.Places format = codes "place,kind,storage,throughput,handling,storage_cost"
columns_of file.Offers format = cond (has_lots format) (codes "offer,place,commodity,price,max_kg,first,last,fee,least") (codes "offer,place,commodity,price,max_kg,first,last")
columns_of file.Arcs format = codes "arc,from,to,cost,capacity,lead"
columns_of file.Persons format = cond (has_baskets format) (codes "place,month,persons,basket") (codes "place,month,persons")
columns_of file.Stock format = codes "place,commodity,month,kg"
columns_of file.Baskets format = codes "basket"
columns_of file.Needs format = codes "basket,nutrient,required,max_short,weight"
columns_of file.Model format = codes "quantities,rows,terms"
columns_of file.Plan format = codes "quantity,name,commodity,month,amount"
columns_of file.Certificate format = codes ""
columns_of file.Edits format = codes "file,record,column,value"
columns_of file.Executed format = codes "quantity,name,commodity,month,amount"

-- the format under which a file has the most columns; those of another format are the first of these
abbrev pub widest_format : File → ℕ
widest_format file.Nutrients = 1
widest_format _ = LAST_FORMAT

-- the names that stand between commas
abbrev pub names_of : List ℕ → List (List ℕ)
names_of columns = slice_split (λ byte. byte == 44) columns

-- the names of a file's columns or keys, in the order of their numbers, under the format that has the most
abbrev pub column_names : File → List (List ℕ)
column_names f = names_of (columns_of f (widest_format f))

-- the name of a column or key, numbered from 1; empty where there is none
abbrev pub column_name : File → ℕ → List ℕ
column_name f column = slice_index_or (column_names f) (column - 1) []
