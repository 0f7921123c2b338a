-- The keys of the settings.
use Rattle.std.specs.Prelude.{ℕ, List}
use Rattle.opt_base.specs.declared.refusal.File.TheVariants.{Settings}
use Rattle.opt_model.specs.Columns.{column_name}
use Rattle.opt_read.specs.declared.key.Key.{Key}
use Rattle.opt_read.specs.declared.key.Key.TheVariants.{Format, Months, Days, Goal, Gap, Nodes, Budget}

-- the number of a key, from 1
abbrev pub key_number : Key → ℕ
key_number Format = 1
key_number Months = 2
key_number Days = 3
key_number Goal = 4
key_number Gap = 5
key_number Nodes = 6
key_number Budget = 7

-- a key as it stands in the file
unfoldable pub key_name : Key → List ℕ
key_name key = column_name Settings (key_number key)
