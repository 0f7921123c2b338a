use Rattle.std.proofs.Common.{take}
use Rattle.opt_system.specs.Columns.{AddsRow}
use Rattle.opt_system.proofs.columns.add_row.Given as goal

abbrev pub invariant-loop-term : goal.invariant-loop-term
invariant-loop-term l = AddsRow l.initial.columns.items l.columns.items l.row (take l.term-index l.terms)
