use Rattle.std.proofs.Common.{take}
use Rattle.opt_system.specs.Columns.{AreJoined}
use Rattle.opt_system.proofs.columns.join.Given as goal

abbrev pub invariant-loop-list : goal.invariant-loop-list
invariant-loop-list l = AreJoined l.terms.items l.starts.items (take l.list-index l.lists)
