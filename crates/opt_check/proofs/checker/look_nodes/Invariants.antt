use Rattle.opt_check.proofs.NodeSteps.{Runs}
use Rattle.opt_check.proofs.checker.look_nodes.Given as goal

abbrev pub invariant-loop-node : goal.invariant-loop-node
invariant-loop-node l = Runs l.task.system.now l.task.known.now l.nodes l.node-index l.seen l.walk
