use Rattle.csv.specs.Records.{fields_of}
use Rattle.opt_read.proofs.TextLemmas.{field-text}
use Rattle.opt_read.proofs.csv_table.text_field.Goals as goal

pub unreachable-requires : goal.unreachable-requires
unreachable-requires c = c.in-Err.ensures.cases.0 (rw c.stripped_field.ensures (field-text (fields_of c.args.row.now) c.args.place c.requires))
