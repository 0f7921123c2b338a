-- A tree of boxes as a list of nodes. Each node but the first keeps its parent and the one end of its parent's box that is
-- another in its own box.
use Rattle.std.specs.Prelude.{◌≡◌, ℕ, zero, suc, ◌+◌, ◌*◌, ◌<◌, ◌≤◌, ◌==◌, ◌||◌, Bool, true, false, List, [], ◌∷◌, ◌++◌, length, map, sum_by, slice_index_or, slice_set, Option, Some, None, is_some, ℤ, pos, ◌+ℤ◌, ◌≤ℤ◌}
use Rattle.opt_sums.specs.Sums.{at}
use Rattle.opt_system.specs.Ranges.{Range, IsOrdered, IsWithin}
use Rattle.opt_system.specs.Cuts.{IsCut}
use Rattle.opt_bound.specs.Multipliers.{Multipliers}
use Rattle.opt_bound.specs.Bound.{trivial_multipliers}
use Rattle.opt_tree.specs.declared.limits.TheConstants.{NODE_LIMIT}
use Rattle.opt_tree.specs.declared.boxes.BoxAtHand.{BoxAtHand}
use Rattle.opt_tree.specs.declared.node.Node.{Node}
use Rattle.opt_tree.specs.declared.node.Node.TheVariants.{Leaf, Split}
use Rattle.opt_tree.specs.declared.node.End.{End}
use Rattle.opt_tree.specs.declared.node.End.TheVariants.{Low, High}
use Rattle.opt_tree.specs.declared.node.Link.{Link}
use Rattle.opt_tree.specs.declared.node.TreeNode.{TreeNode}
use Rattle.opt_tree.specs.Trees.{BoxTree, leaf, split}

-- the root's box and the nodes by their numbers
pub record Tree : Type 0 where
  pub root : Range
  pub nodes : List TreeNode

-- a leaf that says nothing, which stands for a node that there is not
abbrev pub no_node : TreeNode
no_node = record { node = Leaf; mult = trivial_multipliers; link = None }

-- the tree of these nodes below this root
abbrev pub tree_from : Range → List TreeNode → Tree
tree_from root nodes = record { root = root; nodes = nodes }

-- node i of the list
abbrev pub node_at : List TreeNode → ℕ → TreeNode
node_at nodes i = slice_index_or nodes i no_node

-- node i is a node of the tree, and a leaf
pub record IsLeaf (t : Tree) (i : ℕ) : Type 0 where
  pub in_tree : i < length t.nodes
  pub leaf : (node_at t.nodes i).node ≡ Leaf

-- ---- boxes
abbrev pub with_end : End → Range → ℕ → ℤ → Range
with_end High box j v = record { low = box.low; high = slice_set box.high j v }
with_end Low box j v = record { low = slice_set box.low j v; high = box.high }

-- the box with the one end that the link says
abbrev pub changed : Range → Link → Range
changed box k = with_end k.end box k.quantity k.value

-- the box of a node with this link, after the boxes of the nodes before it
abbrev pub box_by : Range → List Range → Option Link → Range
box_by root made None = root
box_by root made (Some k) = changed (slice_index_or made k.parent root) k

-- the boxes made so far, and one more for each of these links
abbrev pub boxes_from : Range → List Range → List (Option Link) → List Range
boxes_from root made [] = made
boxes_from root made (link ∷ links) = boxes_from root (made ++ box_by root made link ∷ []) links

abbrev pub links : List TreeNode → List (Option Link)
links nodes = map (λ n. n.link) nodes

-- the boxes of the nodes, by their numbers
abbrev pub boxes : Tree → List Range
boxes t = boxes_from t.root [] (links t.nodes)

-- the box of node i
abbrev pub box_of : Tree → ℕ → Range
box_of t i = slice_index_or (boxes t) i t.root

-- the box at hand is that of its node
pub record IsAtHand (t : Tree) (hand : BoxAtHand) : Type 0 where
  pub in_tree : hand.node < length t.nodes
  pub own_box : hand.range ≡ box_of t hand.node

-- ---- what every tree keeps
-- the end that the link says lies in the box of the parent
pub record IsInward (box : Range) (k : Link) : Type 0 where
  pub quantity : k.quantity < length box.low
  pub from_low : at box.low k.quantity ≤ℤ k.value
  pub to_high : k.value ≤ℤ at box.high k.quantity

abbrev pub is_child : Node → ℕ → Bool
is_child Leaf i = false
is_child (Split j t l r) i = (i == l) || (i == r)

-- the links of the two halves when node i is split at the cut c of quantity j
abbrev pub link_left : ℕ → ℕ → ℤ → Link
link_left i j c = record { parent = i; quantity = j; end = High; value = c }

abbrev pub link_right : ℕ → ℕ → ℤ → Link
link_right i j c = record { parent = i; quantity = j; end = Low; value = c +ℤ pos 1 }

-- node i comes after its parent, which is split and has it as a child
pub record IsLinked (t : Tree) (i : ℕ) (k : Link) : Type 0 where
  pub later : k.parent < i
  pub child : is_child (node_at t.nodes k.parent).node i ≡ true
  pub inward : IsInward (box_of t k.parent) k

-- node i is split at a cut of its box, and its two children come after it and have the halves as boxes
pub record IsSplit (t : Tree) (i j : ℕ) (c : ℤ) (l r : ℕ) : Type 0 where
  pub cut : IsCut (box_of t i) j c
  pub left_later : i < l
  pub right_later : i < r
  pub left_in_tree : l < length t.nodes
  pub right_in_tree : r < length t.nodes
  pub left_link : (node_at t.nodes l).link ≡ Some (link_left i j c)
  pub right_link : (node_at t.nodes r).link ≡ Some (link_right i j c)

-- the tree at node i, down to this depth
abbrev pub grown : Node → Multipliers → (ℕ → BoxTree) → BoxTree
grown Leaf m below = leaf m
grown (Split j c l r) m below = split j c (below l) (below r)

abbrev pub tree_at : ℕ → List TreeNode → ℕ → BoxTree
tree_at zero nodes i = leaf (node_at nodes i).mult
tree_at (suc depth) nodes i = grown (node_at nodes i).node (node_at nodes i).mult (tree_at depth nodes)

-- the tree of boxes that the nodes make
abbrev pub tree_of : Tree → BoxTree
tree_of t = tree_at (length t.nodes) t.nodes 0

-- what the nodes are, by their numbers
abbrev pub kinds : List TreeNode → List Node
kinds nodes = map (λ n. n.node) nodes

-- how many nodes are leaves
abbrev pub leaf_weight : Node → ℕ
leaf_weight Leaf = 1
leaf_weight (Split j t l r) = 0

abbrev pub leaf_nodes : List TreeNode → ℕ
leaf_nodes nodes = sum_by leaf_weight (kinds nodes)

-- what every tree keeps: the first node is the root; each other is the child of an earlier one; splits are cuts of their
-- boxes; there are at most as many nodes as a tree may have, one less than twice the leaves
pub record IsTree (t : Tree) : Type 0 where
  pub ordered : IsOrdered t.root
  pub has_root : 0 < length t.nodes
  pub few : length t.nodes ≤ NODE_LIMIT
  pub root_link : (node_at t.nodes 0).link ≡ None
  pub each_linked : (i : ℕ) → 0 < i → i < length t.nodes → is_some (node_at t.nodes i).link ≡ true
  pub linked : (i : ℕ) (k : Link) → i < length t.nodes → (node_at t.nodes i).link ≡ Some k → IsLinked t i k
  pub splits : (i j : ℕ) (c : ℤ) (l r : ℕ) → i < length t.nodes → (node_at t.nodes i).node ≡ Split j c l r → IsSplit t i j c l r
  pub leaves : length t.nodes + 1 ≡ 2 * leaf_nodes t.nodes

-- the point lies in the box of leaf k, and of no other leaf
pub record LiesInOne (t : Tree) (x : List ℤ) (k : ℕ) : Type 0 where
  pub leaf : IsLeaf t k
  pub inside : IsWithin (box_of t k) x
  pub alone : (i : ℕ) → IsLeaf t i → IsWithin (box_of t i) x → i ≡ k

-- ---- changes of a tree
-- a tree of one leaf
abbrev pub one_leaf : Range → Tree
one_leaf root = record { root = root; nodes = no_node ∷ [] }

-- a new leaf with this link, and with the multipliers of its parent
abbrev pub child_of : TreeNode → Link → TreeNode
child_of parent k = record { node = Leaf; mult = parent.mult; link = Some k }

-- node i as a split at the value of its left half's link, whose children get the next two numbers; it keeps its own link,
-- and its multipliers go to its children
abbrev pub split_node : List TreeNode → ℕ → Link → TreeNode
split_node nodes i left = record {
  node = Split left.quantity left.value (length nodes) (length nodes + 1);
  mult = trivial_multipliers;
  link = (node_at nodes i).link;
}

-- the nodes when node i is split into halves with these links
abbrev pub parted : List TreeNode → ℕ → Link → Link → List TreeNode
parted nodes i left right =
    slice_set nodes i (split_node nodes i left) ++ child_of (node_at nodes i) left ∷ child_of (node_at nodes i) right ∷ []

-- the tree with leaf i split at the cut c of quantity j
abbrev pub split_at : Tree → ℕ → ℕ → ℤ → Tree
split_at t i j c = record { root = t.root; nodes = parted t.nodes i (link_left i j c) (link_right i j c) }

-- the tree with other multipliers at node i
abbrev pub with_mult : Tree → ℕ → Multipliers → Tree
with_mult t i m = record {
  root = t.root;
  nodes = slice_set t.nodes i (record { node = (node_at t.nodes i).node; mult = m; link = (node_at t.nodes i).link });
}
