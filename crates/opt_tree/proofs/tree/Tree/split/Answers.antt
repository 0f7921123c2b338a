use Rattle.std.proofs.Common.{◌≡◌, ◌≤◌, ◌+◌, length, List, ℕ, ℤ, arith, subst, sym, ap, ◌∙◌}
use Rattle.std.proofs.lemmas.Int.{to_z-of_z}
use mir.Syntax.{w64}
use mir.Val.{to_z, of_z}
use Rattle.opt_system.specs.Ranges.{Range}
use Rattle.opt_system.specs.Cuts.{IsCut}
use Rattle.opt_tree.specs.declared.boxes.BoxAtHand.{BoxAtHand}
use Rattle.opt_tree.specs.declared.limits.TheConstants.{NODE_LIMIT}
use Rattle.opt_tree.specs.declared.node.Link.{Link}
use Rattle.opt_tree.specs.declared.node.TreeNode.{TreeNode}
use Rattle.opt_tree.specs.Nodes.{Tree, IsTree, IsLeaf, IsAtHand, tree_from, box_of, link_left, link_right, parted}
use Rattle.opt_tree.proofs.HandLemmas.{IsAtHand-split_at}
use Rattle.opt_tree.proofs.SplitTree.{IsTree-split_at}
use Rattle.opt_tree.proofs.tree.Tree.split.Goals as goal

-- the links of the halves at a cut of a leaf's box
abbrev pub AreHalves : Tree → ℕ → ℕ → Link × Link → ℤ → Type 0
AreHalves t i j made c = IsCut (box_of t i) j c × (◌≡◌ {A = Link × Link} made (link_left i j c, link_right i j c))

-- what the nodes and the box at hand keep
abbrev pub Keeps : Range → BoxAtHand → List TreeNode → Type 0
Keeps root hand nodes = IsTree (tree_from root nodes) × IsAtHand (tree_from root nodes) hand

-- the tree at the end, whose nodes were parted at these links
after : (t u : Tree) (hand : BoxAtHand) (i j : ℕ) (c : ℤ) (left right : Link) (nodes : List TreeNode) → t ≡ u → IsTree t → IsAtHand t hand → IsLeaf u i → AreHalves t i j (left, right) c → length u.nodes + 2 ≤ NODE_LIMIT → nodes ≡ parted t.nodes i left right → Keeps t.root hand nodes
after t u hand i j c left right nodes same tree here is_leaf halves room is =
    let leaf : IsLeaf t i = subst (λ (w : Tree). IsLeaf w i) (sym same) is_leaf in
    let small : length t.nodes + 2 ≤ NODE_LIMIT = omega (arith, room, ap (λ (w : Tree). length w.nodes) same) in
    subst (Keeps t.root hand) (sym (is ∙ ap (λ (k : Link × Link). parted t.nodes i k.0 k.1) halves.1)) (IsTree-split_at t i j c tree leaf halves.0 small, IsAtHand-split_at t hand i j c here)

pub invariant_of-self-3 : goal.invariant_of-self-3
invariant_of-self-3 c =
    let t : Tree = tree_from c.self.inside.root c.self.inside.nodes.items in
    let made : AreHalves t c.args.leaf c.args.quantity (c.in-Some.left, c.in-Some.right) (to_z w64 (of_z w64 c.args.at)) =
    subst (λ (ns : List TreeNode). AreHalves (tree_from c.self.inside.root ns) c.args.leaf c.args.quantity (c.in-Some.left, c.in-Some.right) (to_z w64 (of_z w64 c.args.at))) c.deref.ensures.value c.in-Some.ensures
    in
    let halves : AreHalves t c.args.leaf c.args.quantity (c.in-Some.left, c.in-Some.right) c.args.at =
    subst (AreHalves t c.args.leaf c.args.quantity (c.in-Some.left, c.in-Some.right)) (to_z-of_z w64 c.args.at c.ranges.at) made
    in
    let here : IsAtHand t c.take.new.self =
    subst (λ (ns : List TreeNode). IsAtHand (tree_from c.self.inside.root ns) c.take.new.self) c.deref-2.ensures.value c.in_ok-take.ensures.at_hand
    in
    after t c.args.self.now c.take.new.self c.args.leaf c.args.quantity c.args.at c.in-Some.left c.in-Some.right c.part.new.nodes.items c.self.view_is c.self.invariant.0
    here
    (c.is_leaf.ensures.0 c.if-not-is_leaf.false)
    halves
    c.requires.room
    c.in_ok-part.ensures.ok
