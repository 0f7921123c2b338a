use Rattle.std.proofs.Common.{[]}
use Rattle.opt_system.specs.Columns.{AreColumns}
use Rattle.opt_system.proofs.columns.empty_columns.Given as goal

abbrev pub invariant-loop : goal.invariant-loop
invariant-loop l = AreColumns l.columns.items l.counter []
