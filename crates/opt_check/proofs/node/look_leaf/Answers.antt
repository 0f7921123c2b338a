use Rattle.std.proofs.Common.{sym}
use Rattle.opt_bound.proofs.FaultLemmas.{admissible_of}
use Rattle.opt_check.proofs.node.look_leaf.Goals as goal

pub leaf_at-leaf-requires-clause-admissible : goal.leaf_at-leaf-requires-clause-admissible
leaf_at-leaf-requires-clause-admissible c = admissible_of c.args.task.now.system.now c.args.mult.now.entries (sym c.in_default.ensures)
