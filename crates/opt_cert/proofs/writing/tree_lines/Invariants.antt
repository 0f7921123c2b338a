use Rattle.std.proofs.Common.{◌≡◌, ◌++◌, ◌<◌, All, length}
use Rattle.opt_cert.specs.Writing.{node_lines, nodes_at, nodes_left}
use Rattle.opt_cert.proofs.writing.tree_lines.Given as goal

abbrev pub invariant-loop-i : goal.invariant-loop-i
invariant-loop-i l = record {
  whole : l.text.items ++ node_lines (nodes_left l.tree l.waiting.items) ≡ l.fn.text.items ++ node_lines (nodes_at l.tree 0);
  in_tree : All (λ k. k < length l.tree.nodes) l.waiting.items;
}

abbrev pub decreases-loop-i : goal.decreases-loop-i
decreases-loop-i l = length (nodes_left l.tree l.waiting.items)
