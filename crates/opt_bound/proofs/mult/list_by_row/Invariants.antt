use Rattle.std.proofs.Common.{◌≡◌, length, take}
use Rattle.opt_bound.specs.Kept.{IsByRow}
use Rattle.opt_bound.proofs.mult.list_by_row.Given as goal

abbrev pub invariant-loop-entry : goal.invariant-loop-entry
invariant-loop-entry l =
    (length l.by_row.items ≡ length l.initial.by_row.items) × IsByRow (take l.entry-index l.entries) l.by_row.items
