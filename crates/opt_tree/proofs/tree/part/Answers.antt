use Rattle.std.proofs.Common.{◌≡◌, ◌+◌, ◌++◌, ◌∷◌, [], List, ℕ, length, set, rules, ap, ◌∙◌}
use Rattle.opt_bound.specs.Bound.{trivial_multipliers}
use Rattle.opt_tree.specs.declared.node.Node.TheVariants.{Split}
use Rattle.opt_tree.specs.declared.node.TreeNode.{TreeNode}
use Rattle.opt_tree.specs.Nodes.{node_at, child_of}
use Rattle.opt_tree.proofs.SplitLemmas.{parted_marked}
use Rattle.opt_tree.proofs.tree.part.Goals as goal

pub returns-clause-ok : goal.returns-clause-ok
returns-clause-ok c =
    let more : List TreeNode = child_of (node_at c.args.nodes.now.items c.args.i) c.args.left ∷ child_of (node_at c.args.nodes.now.items c.args.i) c.args.right ∷ [] in
    let many : c.len-next.result ≡ length c.args.nodes.now.items = search rules in
    c.mark_split.ensures
    ∙ ap (λ (ns : List TreeNode). set ns c.args.i (record { node = Split c.args.left.quantity c.args.left.value c.len-next.result (c.len-next.result + 1); mult = trivial_multipliers; link = (node_at ns c.args.i).link })) c.in_ok-add_children.ensures.ok
    ∙ ap (λ (n : ℕ). set (c.args.nodes.now.items ++ more) c.args.i (record { node = Split c.args.left.quantity c.args.left.value n (n + 1); mult = trivial_multipliers; link = (node_at (c.args.nodes.now.items ++ more) c.args.i).link })) many
    ∙ parted_marked c.args.nodes.now.items more c.args.i c.args.left c.requires.node
