use Rattle.std.proofs.Common.{◌≡◌, ◌≤◌, drop, length, take}
use Rattle.std.specs.List.{flat_map}
use Rattle.opt_read.proofs.BodyLemmas.{EvenBelow}
use Rattle.opt_read.specs.Grid.{fields_at}
use Rattle.opt_read.proofs.csv_table.read_body.Given as goal

abbrev pub invariant-loop-row : goal.invariant-loop-row
invariant-loop-row l = record {
  rest : l.rows ≡ drop l.count l.initial.rows;
  within : l.count ≤ length l.initial.rows;
  even : EvenBelow l.width l.initial.rows l.count;
  fields : l.fields ≡ flat_map (fields_at l.places) (take l.count l.initial.rows);
}

abbrev pub decreases-loop-row : goal.decreases-loop-row
decreases-loop-row l = length l.rows
