use Rattle.std.proofs.Common.{◌≡◌, ◌<◌, length, set, arith, subst, sym, ap}
use Rattle.std.proofs.lemmas.List.{get_or_read}
use Rattle.opt_tree.specs.declared.node.TreeNode.{TreeNode}
use Rattle.opt_tree.specs.Nodes.{Tree, IsTree, IsAtHand, tree_from, no_node, node_at}
use Rattle.opt_tree.proofs.HandLemmas.{IsAtHand-with_mult}
use Rattle.opt_tree.proofs.SameShape.{IsTree-with_mult}
use Rattle.opt_tree.proofs.tree.Tree.set_mult.Goals as goal

pub invariant_of-self : goal.invariant_of-self
invariant_of-self c =
    let below : c.args.leaf < length c.self.inside.nodes.items = omega (arith, c.requires.in_tree, ap (λ (t : Tree). length t.nodes) c.self.view_is) in
    let read : c.index_mut-node.result.now ≡ node_at c.self.inside.nodes.items c.args.leaf = get_or_read c.self.inside.nodes.items c.args.leaf c.index_mut-node.result.now below c.index_mut-node.ensures.value no_node in
    let t : Tree = tree_from c.self.inside.root c.self.inside.nodes.items in
    let P : TreeNode → Type 0 = λ n. IsTree (tree_from t.root (set t.nodes c.args.leaf (record { node = n.node; mult = c.args.mult; link = n.link }))) × IsAtHand (tree_from t.root (set t.nodes c.args.leaf (record { node = n.node; mult = c.args.mult; link = n.link }))) c.self.inside.at_hand in
    subst P (sym read) (
      IsTree-with_mult t c.args.leaf c.args.mult c.self.invariant.0,
      IsAtHand-with_mult t c.self.inside.at_hand c.args.leaf c.args.mult c.self.invariant.1,
    )
