use Rattle.std.proofs.Common.{◌≡◌, map, take}
use Rattle.csv.specs.Records.{fields_of}
use Rattle.opt_read.specs.Grid.{without_blanks}
use Rattle.opt_read.proofs.rows.stripped_fields.Given as goal

abbrev pub invariant-loop-column : goal.invariant-loop-column
invariant-loop-column l = map (λ field. field.now) l.fields.items ≡ map without_blanks (take l.column (fields_of l.row))
