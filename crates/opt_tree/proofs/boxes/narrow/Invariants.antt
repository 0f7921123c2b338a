use Rattle.std.proofs.Common.{◌<◌, length, ℕ}
use Rattle.opt_system.specs.Ranges.{Range}
use Rattle.opt_tree.specs.Nodes.{Tree, tree_from, box_of}
use Rattle.opt_tree.specs.Narrowed.{IsOnWay}
use Rattle.opt_tree.proofs.boxes.narrow.Given as goal

pub record IsHere (t : Tree) (node i : ℕ) (box : Range) : Type 0 where
  pub in_tree : node < length t.nodes
  pub way : IsOnWay t.root (box_of t node) box (box_of t i)

abbrev pub invariant-loop-link : goal.invariant-loop-link
invariant-loop-link l = IsHere (tree_from l.initial.range l.nodes) l.at l.fn.i l.range

abbrev pub decreases-loop-link : goal.decreases-loop-link
decreases-loop-link l = l.at
