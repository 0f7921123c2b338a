use Rattle.std.proofs.Common.{take}
use Rattle.opt_tables.specs.Amounts.{AreAmounts, stock_in}
use Rattle.opt_tables.proofs.amounts.Amounts.of_stock.Given as goal

-- the kilograms of the records so far
abbrev pub invariant-loop-one : goal.invariant-loop-one
invariant-loop-one l = AreAmounts l.stock (stock_in (take l.one-index l.records))
