-- Trees from their nodes in order.
use Rattle.std.specs.Prelude.{◌≡◌, ℕ, ◌<◌, ◌^◌, List, [], ◌∷◌, length, Option, ℤ}
use Rattle.opt_base.specs.declared.verdict.Verdict.{Verdict}
use Rattle.opt_bound.specs.Multipliers.{Multipliers}
use Rattle.opt_bound.specs.Bound.{trivial_multipliers}
use Rattle.opt_tree.specs.declared.cert_node.CertNode.{CertNode}
use Rattle.opt_tree.specs.declared.cert_node.CertNode.TheVariants as node
use Rattle.opt_tree.specs.Trees.{BoxTree, leaf, split, preorder}
use Rattle.opt_tree.specs.Certificates.{Certificate, IsCertificate, HasNodes}

-- a split over the first two trees
abbrev pub joined : ℕ → ℤ → List BoxTree → List BoxTree
joined j t (left ∷ right ∷ rest) = split j t left right ∷ rest
joined j t other = []

-- the trees that these nodes are in order, one after the other
abbrev pub forest : List CertNode → List BoxTree
forest [] = []
forest (node.Leaf m ∷ nodes) = leaf m ∷ forest nodes
forest (node.Split j t ∷ nodes) = joined j t (forest nodes)

abbrev pub first_tree : List BoxTree → BoxTree
first_tree [] = leaf trivial_multipliers
first_tree (tree ∷ rest) = tree

-- the tree that these nodes are in order
abbrev pub tree_of_nodes : List CertNode → BoxTree
tree_of_nodes nodes = first_tree (forest nodes)

-- the certificate with these nodes in order
abbrev pub certificate_of_nodes : Verdict → Multipliers → Option (List (ℕ × ℤ)) → List CertNode → Certificate
certificate_of_nodes verdict root point nodes =
    record { verdict = verdict; root = root; point = point; tree = tree_of_nodes nodes }

-- the nodes are those of one tree in order, fewer than 2^32, and their numbers are in range
pub record AreTreeNodes (nodes : List CertNode) : Type 0 where
  pub in_order : nodes ≡ preorder (tree_of_nodes nodes)
  pub in_range : HasNodes (tree_of_nodes nodes)
  pub few : length nodes < 2 ^ 32

-- the nodes are those of one tree, fewer than 2^32, and with them this is a certificate
pub record AreNodesOf (c : Certificate) (nodes : List CertNode) : Type 0 where
  pub certificate : IsCertificate c
  pub in_order : nodes ≡ preorder c.tree
  pub few : length nodes < 2 ^ 32
