use Rattle.std.proofs.Common.{take}
use Rattle.opt_tables.specs.Amounts.{AreAmounts, heads_in}
use Rattle.opt_tables.proofs.amounts.Amounts.of_persons.Given as goal

-- the persons of the records so far
abbrev pub invariant-loop-one : goal.invariant-loop-one
invariant-loop-one l = AreAmounts l.heads (heads_in (take l.one-index l.records))
