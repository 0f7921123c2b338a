-- The tree that a list of nodes makes has numbers that a certificate can have where its leaves and cuts do.
use Rattle.std.proofs.Common.{◌≡◌, ℕ, ◌<◌, length, ℤ, arith}
use Rattle.opt_tree.specs.declared.node.Node.TheVariants.{Split}
use Rattle.opt_tree.specs.Certificates.{AreWritable, IsWritableCut, HasNodes}
use Rattle.opt_tree.specs.Nodes.{Tree, IsTree, IsLeaf, node_at, box_of, tree_of}
use Rattle.opt_tree.proofs.NodeLemmas.{box_of-root}
use Rattle.opt_search.proofs.TreeWalk.{walk}

pub box_of-first : (t : Tree) → IsTree t → box_of t 0 ≡ t.root
box_of-first t tree = box_of-root t 0 tree.has_root tree.root_link

pub HasNodes-tree_of : (t : Tree) → IsTree t → ((i : ℕ) → IsLeaf t i → AreWritable (node_at t.nodes i).mult) → ((i j : ℕ) (c : ℤ) (l r : ℕ) → i < length t.nodes → (node_at t.nodes i).node ≡ Split j c l r → IsWritableCut j c) → HasNodes (tree_of t)
HasNodes-tree_of t tree writable cuts =
    walk t (λ d i u. HasNodes u) tree
    (λ d i is. writable i is)
    (λ d i j c l r u v below kind is left right. (cuts i j c l r below kind, left, right))
    (length t.nodes) 0 tree.has_root (omega arith)
