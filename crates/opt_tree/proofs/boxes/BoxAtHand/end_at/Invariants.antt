use Rattle.std.proofs.Common.{◌≡◌, ◌<◌, length, ℕ}
use Rattle.opt_sums.specs.Sums.{at}
use Rattle.opt_tree.specs.declared.node.End.{End}
use Rattle.opt_tree.specs.Nodes.{Tree, tree_from, box_of}
use Rattle.opt_tree.specs.Narrowed.{side}
use Rattle.opt_tree.proofs.boxes.BoxAtHand.end_at.Given as goal

pub record IsSameEnd (t : Tree) (e : End) (quantity node i : ℕ) : Type 0 where
  pub in_tree : node < length t.nodes
  pub same : at (side e (box_of t node)) quantity ≡ at (side e (box_of t i)) quantity

abbrev pub invariant-loop-link : goal.invariant-loop-link
invariant-loop-link l = IsSameEnd (tree_from l.root l.nodes) l.end l.quantity l.at l.fn.i

abbrev pub decreases-loop-link : goal.decreases-loop-link
decreases-loop-link l = l.at
