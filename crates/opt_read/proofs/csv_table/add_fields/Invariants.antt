use Rattle.std.proofs.Common.{◌≡◌, ◌++◌, take}
use Rattle.csv.specs.Records.{fields_of}
use Rattle.opt_read.specs.Grid.{fields_at}
use Rattle.opt_read.proofs.csv_table.add_fields.Given as goal

abbrev pub invariant-loop-place : goal.invariant-loop-place
invariant-loop-place l = l.fields ≡ l.fn.fields ++ fields_at (take l.place-index l.places) (fields_of l.row)
