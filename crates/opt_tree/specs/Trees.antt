-- Trees of boxes: a box is a leaf with multipliers, or it is split at a cut of a quantity into two smaller boxes.
use Rattle.std.specs.Prelude.{ℕ, ◌+◌, List, [], ◌∷◌, ◌++◌, ℤ}
use Rattle.opt_system.specs.Ranges.{Range}
use Rattle.opt_system.specs.Cuts.{IsCut, left_half, right_half}
use Rattle.opt_bound.specs.Multipliers.{Multipliers}
use Rattle.opt_tree.specs.declared.cert_node.CertNode.{CertNode}
use Rattle.opt_tree.specs.declared.cert_node.CertNode.TheVariants as node

pub data BoxTree : Type 0 where
  leaf : (m : Multipliers) → BoxTree
  split : (quantity : ℕ) (cut : ℤ) (left right : BoxTree) → BoxTree

-- how many nodes the tree has, leaves and splits
abbrev pub node_count : BoxTree → ℕ
node_count (leaf m) = 1
node_count (split j t left right) = 1 + node_count left + node_count right

-- how many leaves the tree has
abbrev pub leaf_count : BoxTree → ℕ
leaf_count (leaf m) = 1
leaf_count (split j t left right) = leaf_count left + leaf_count right

-- the nodes in order: each split before its left tree, and that before its right tree
abbrev pub preorder : BoxTree → List CertNode
preorder (leaf m) = node.Leaf m ∷ []
preorder (split j t left right) = node.Split j t ∷ preorder left ++ preorder right

-- each split of the tree is a cut of its box; the tree stands on this box
abbrev pub HasCuts : Range → BoxTree → Type 0
HasCuts box (leaf m) = Unit {0}
HasCuts box (split j t left right) = IsCut box j t × HasCuts (left_half box j t) left × HasCuts (right_half box j t) right
