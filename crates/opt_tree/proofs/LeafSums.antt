-- Sums over the leaves of a tree are sums over the nodes that are leaves. So there is one node fewer than twice the leaves,
-- the points of the leaves' boxes add up, and there are fewer nodes than twice the points.
use Rattle.std.proofs.Common.{◌≡◌, inl, inr, ℕ, zero, suc, ◌+◌, ◌*◌, ◌<◌, ◌≤◌, List, [], ◌∷◌, length, get_or, sum_by, refl, subst, ap, sym, ◌∙◌, arith}
use Rattle.std.proofs.lemmas.List.{length-map}
use Rattle.std.proofs.lemmas.List.Sums.{sum_by-cons}
use Rattle.opt_sums.proofs.SumLemmas.{total_to, total_to-add, total_to-same, total_to-constant, total_to-le}
use Rattle.opt_sums.proofs.EntryLemmas.{same_or_other}
use Rattle.opt_system.specs.Ranges.{Range, points}
use Rattle.opt_system.proofs.CutLemmas.{points-halves, points-positive}
use Rattle.opt_tree.specs.declared.node.Node.{Node}
use Rattle.opt_tree.specs.declared.node.Node.TheVariants.{Leaf, Split}
use Rattle.opt_tree.specs.declared.node.TreeNode.{TreeNode}
use Rattle.opt_tree.specs.Trees.{node_count, leaf_count, HasCuts}
use Rattle.opt_tree.specs.Nodes.{Tree, IsTree, IsLeaf, IsSplit, node_at, kinds, leaf_weight, leaf_nodes, box_of, tree_at, tree_of, grown}
use Rattle.opt_tree.proofs.BoxLemmas.{box_of-IsBox, box_of-left, box_of-right}
use Rattle.opt_tree.proofs.SameShape.{kind_of}
use Rattle.opt_tree.proofs.NodeLemmas.{box_of-root}
use Rattle.opt_tree.proofs.Occurs.{IsParted, leaf_or_split, children, last_is_leaf, one, one_same, one_other, below, occurs, occurs-once}

-- ---- totals
pick_none : (n i : ℕ) (g : ℕ → ℕ) → n ≤ i → total_to n (λ k. one i k * g k) ≡ 0
pick_none n i g h =
    total_to-same n (λ k. one i k * g k) (λ _. 0) (λ k small. omega (arith, ap (λ m. m * g k) (one_other i k (omega arith)))) ∙ omega (arith, total_to-constant n 0)

-- the total of what is taken at one number alone
pub pick : (n i : ℕ) (g : ℕ → ℕ) → i < n → total_to n (λ k. one i k * g k) ≡ g i
pick zero i g h = absurd (omega arith)
pick (suc n) i g h =
    elim (same_or_other i n) [
      | inl e ↦
          let p : i ≡ n = e in
          omega (arith, pick_none n i g (omega arith), ap (λ m. m * g n) (one_same i n p), ap g p)
      | inr e ↦ omega (arith, pick n i g (omega arith), ap (λ m. m * g n) (one_other i n e))
    ]

-- ---- sums over the leaves of the tree at a node
abbrev pub sum_below : Node → ℕ → (ℕ → ℕ) → ℕ
sum_below Leaf here f = here
sum_below (Split j c l r) here f = f l + f r

-- the sum of w over the leaves of the tree at node i, down to this depth
abbrev pub leaf_sum : (ℕ → ℕ) → ℕ → List TreeNode → ℕ → ℕ
leaf_sum w zero nodes i = w i
leaf_sum w (suc depth) nodes i = sum_below (node_at nodes i).node (w i) (leaf_sum w depth nodes)

-- what node k has in such a sum
abbrev pub weighted : List TreeNode → (ℕ → ℕ) → ℕ → ℕ
weighted nodes w k = leaf_weight (node_at nodes k).node * w k

weighted_leaf : (nodes : List TreeNode) (w : ℕ → ℕ) (i : ℕ) → (node_at nodes i).node ≡ Leaf → weighted nodes w i ≡ w i
weighted_leaf nodes w i leaf = omega (arith, ap (λ m. leaf_weight m * w i) leaf)

weighted_split : (nodes : List TreeNode) (w : ℕ → ℕ) (i : ℕ) → (p : IsParted (node_at nodes i).node) → weighted nodes w i ≡ 0
weighted_split nodes w i p = omega (arith, ap (λ m. leaf_weight m * w i) p.is)

leaf_sum-total : (t : Tree) (w : ℕ → ℕ) (depth i : ℕ) → IsTree t → i < length t.nodes → length t.nodes ≤ i + 1 + depth → leaf_sum w depth t.nodes i ≡ total_to (length t.nodes) (λ k. occurs k depth t.nodes i * weighted t.nodes w k)
leaf_sum-total t w zero i tree inside deep =
    omega (arith, pick (length t.nodes) i (weighted t.nodes w) inside, weighted_leaf t.nodes w i (last_is_leaf t i tree inside (omega arith)))
leaf_sum-total t w (suc depth) i tree inside deep =
    elim (leaf_or_split (node_at t.nodes i).node) [
      | inl leaf ↦
          omega (
            arith,
            ap (λ m. sum_below m (w i) (leaf_sum w depth t.nodes)) leaf,
            total_to-same (length t.nodes) (λ k. occurs k (suc depth) t.nodes i * weighted t.nodes w k) (λ k. one i k * weighted t.nodes w k) (λ k _. ap (λ m. (one i k + below m (occurs k depth t.nodes)) * weighted t.nodes w k) leaf ∙ omega arith),
            pick (length t.nodes) i (weighted t.nodes w) inside,
            weighted_leaf t.nodes w i leaf,
          )
      | inr p ↦
          let s : IsSplit t i p.quantity p.cut p.left p.right = children t i tree inside p in
          omega (
            arith,
            ap (λ m. sum_below m (w i) (leaf_sum w depth t.nodes)) p.is,
            total_to-same (length t.nodes) (λ k. occurs k (suc depth) t.nodes i * weighted t.nodes w k)
                (λ k. (one i k * weighted t.nodes w k) + ((occurs k depth t.nodes p.left * weighted t.nodes w k) + (occurs k depth t.nodes p.right * weighted t.nodes w k)))
                (λ k _. ap (λ m. (one i k + below m (occurs k depth t.nodes)) * weighted t.nodes w k) p.is ∙ omega arith),
            total_to-add (length t.nodes) (λ k. one i k * weighted t.nodes w k) (λ k. (occurs k depth t.nodes p.left * weighted t.nodes w k) + (occurs k depth t.nodes p.right * weighted t.nodes w k)),
            total_to-add (length t.nodes) (λ k. occurs k depth t.nodes p.left * weighted t.nodes w k) (λ k. occurs k depth t.nodes p.right * weighted t.nodes w k),
            pick (length t.nodes) i (weighted t.nodes w) inside,
            weighted_split t.nodes w i p,
            leaf_sum-total t w depth p.left tree s.left_in_tree (omega (arith, s.left_later)),
            leaf_sum-total t w depth p.right tree s.right_in_tree (omega (arith, s.right_later)),
          )
    ]

-- the sum over the leaves of the whole tree goes over the nodes that are leaves
pub leaf_sum-root : (t : Tree) (w : ℕ → ℕ) → IsTree t → leaf_sum w (length t.nodes) t.nodes 0 ≡ total_to (length t.nodes) (weighted t.nodes w)
leaf_sum-root t w tree =
    leaf_sum-total t w (length t.nodes) 0 tree tree.has_root (omega arith)
    ∙ total_to-same (length t.nodes) (λ k. occurs k (length t.nodes) t.nodes 0 * weighted t.nodes w k) (weighted t.nodes w)
    (λ k small. ap (λ n. n * weighted t.nodes w k) (occurs-once t k (length t.nodes) tree small (omega arith)) ∙ omega arith)

-- ---- the nodes of the tree of boxes
node_count-total : (t : Tree) (depth i : ℕ) → IsTree t → i < length t.nodes → length t.nodes ≤ i + 1 + depth → node_count (tree_at depth t.nodes i) ≡ total_to (length t.nodes) (λ k. occurs k depth t.nodes i * 1)
node_count-total t zero i tree inside deep = sym (pick (length t.nodes) i (λ _. 1) inside)
node_count-total t (suc depth) i tree inside deep =
    elim (leaf_or_split (node_at t.nodes i).node) [
      | inl leaf ↦
          omega (
            arith,
            ap (λ m. node_count (grown m (node_at t.nodes i).mult (tree_at depth t.nodes))) leaf,
            total_to-same (length t.nodes) (λ k. occurs k (suc depth) t.nodes i * 1) (λ k. one i k * 1) (λ k _. ap (λ m. (one i k + below m (occurs k depth t.nodes)) * 1) leaf ∙ omega arith),
            pick (length t.nodes) i (λ _. 1) inside,
          )
      | inr p ↦
          let s : IsSplit t i p.quantity p.cut p.left p.right = children t i tree inside p in
          omega (
            arith,
            ap (λ m. node_count (grown m (node_at t.nodes i).mult (tree_at depth t.nodes))) p.is,
            total_to-same (length t.nodes) (λ k. occurs k (suc depth) t.nodes i * 1) (λ k. (one i k * 1) + ((occurs k depth t.nodes p.left * 1) + (occurs k depth t.nodes p.right * 1))) (λ k _. ap (λ m. (one i k + below m (occurs k depth t.nodes)) * 1) p.is ∙ omega arith),
            total_to-add (length t.nodes) (λ k. one i k * 1) (λ k. (occurs k depth t.nodes p.left * 1) + (occurs k depth t.nodes p.right * 1)),
            total_to-add (length t.nodes) (λ k. occurs k depth t.nodes p.left * 1) (λ k. occurs k depth t.nodes p.right * 1),
            pick (length t.nodes) i (λ _. 1) inside,
            node_count-total t depth p.left tree s.left_in_tree (omega (arith, s.left_later)),
            node_count-total t depth p.right tree s.right_in_tree (omega (arith, s.right_later)),
          )
    ]

-- the tree of boxes has just the nodes of the list
pub node_count-tree_of : (t : Tree) → IsTree t → node_count (tree_of t) ≡ length t.nodes
node_count-tree_of t tree =
    node_count-total t (length t.nodes) 0 tree tree.has_root (omega arith)
    ∙ total_to-same (length t.nodes) (λ k. occurs k (length t.nodes) t.nodes 0 * 1) (λ _. 1) (λ k small. omega (arith, occurs-once t k (length t.nodes) tree small (omega arith)))
    ∙ omega (arith, total_to-constant (length t.nodes) 1)

-- ---- points
leaf_sum-points : (t : Tree) (depth i : ℕ) → IsTree t → i < length t.nodes → length t.nodes ≤ i + 1 + depth → leaf_sum (λ k. points (box_of t k)) depth t.nodes i ≡ points (box_of t i)
leaf_sum-points t zero i tree inside deep = refl
leaf_sum-points t (suc depth) i tree inside deep =
    elim (leaf_or_split (node_at t.nodes i).node) [
      | inl leaf ↦ ap (λ m. sum_below m (points (box_of t i)) (leaf_sum (λ k. points (box_of t k)) depth t.nodes)) leaf
      | inr p ↦
          let s : IsSplit t i p.quantity p.cut p.left p.right = children t i tree inside p in
          omega (
            arith,
            ap (λ m. sum_below m (points (box_of t i)) (leaf_sum (λ k. points (box_of t k)) depth t.nodes)) p.is,
            leaf_sum-points t depth p.left tree s.left_in_tree (omega (arith, s.left_later)),
            leaf_sum-points t depth p.right tree s.right_in_tree (omega (arith, s.right_later)),
            ap points (box_of-left t i p.quantity p.cut p.left p.right s),
            ap points (box_of-right t i p.quantity p.cut p.left p.right s),
            points-halves (box_of t i) p.quantity p.cut (box_of-IsBox t i tree inside).ordered s.cut,
          )
    ]

-- the points of the leaves' boxes add up to those of the root's
pub leaf_points : (t : Tree) → IsTree t → total_to (length t.nodes) (weighted t.nodes (λ k. points (box_of t k))) ≡ points t.root
leaf_points t tree =
    sym (leaf_sum-root t (λ k. points (box_of t k)) tree) ∙ leaf_sum-points t (length t.nodes) 0 tree tree.has_root (omega arith) ∙ ap points (box_of-root t 0 tree.has_root tree.root_link)

-- ---- how many leaves there are
total_to-first : (n : ℕ) (f : ℕ → ℕ) → total_to (suc n) f ≡ f 0 + total_to n (λ k. f (suc k))
total_to-first zero f = omega arith
total_to-first (suc n) f = omega (arith, total_to-first n f)

sum_by-total : (ks : List Node) → sum_by leaf_weight ks ≡ total_to (length ks) (λ k. leaf_weight (get_or ks k Leaf))
sum_by-total [] = refl
sum_by-total (m ∷ ks) =
    omega (arith, sum_by-cons leaf_weight m ks, sum_by-total ks, total_to-first (length ks) (λ k. leaf_weight (get_or (m ∷ ks) k Leaf)))

leaf_nodes-total : (nodes : List TreeNode) → leaf_nodes nodes ≡ total_to (length nodes) (λ k. leaf_weight (node_at nodes k).node)
leaf_nodes-total nodes =
    sum_by-total (kinds nodes)
    ∙ ap (λ n. total_to n (λ k. leaf_weight (get_or (kinds nodes) k Leaf))) (length-map nodes (λ (m : TreeNode). m.node))
    ∙ total_to-same (length nodes) (λ k. leaf_weight (get_or (kinds nodes) k Leaf)) (λ k. leaf_weight (node_at nodes k).node) (λ k _. ap leaf_weight (sym (kind_of nodes k)))

weight_le : (m : Node) (p : ℕ) → 1 ≤ p → leaf_weight m ≤ leaf_weight m * p
weight_le Leaf p h = omega arith
weight_le (Split j c l r) p h = omega arith

total_to-less : (n k : ℕ) (f g : ℕ → ℕ) → k < n → ((j : ℕ) → j < n → f j ≤ g j) → f k + 1 ≤ g k → total_to n f + 1 ≤ total_to n g
total_to-less zero k f g inside all here = absurd (omega arith)
total_to-less (suc n) k f g inside all here =
    let last : f n ≤ g n = all n (omega arith) in
    elim (same_or_other k n) [
      | inl e ↦
          let p : k ≡ n = e in
          omega (arith, here, ap f p, ap g p, total_to-le n f g (λ j h. all j (omega arith)))
      | inr e ↦ omega (arith, last, total_to-less n k f g (omega arith) (λ j h. all j (omega arith)) here)
    ]

each_has_a_point : (t : Tree) (k : ℕ) → IsTree t → k < length t.nodes → leaf_weight (node_at t.nodes k).node ≤ weighted t.nodes (λ i. points (box_of t i)) k
each_has_a_point t k tree inside = weight_le (node_at t.nodes k).node (points (box_of t k)) (points-positive (box_of t k) (box_of-IsBox t k tree inside).ordered)

-- there are at most as many leaves as points
pub leaves_le_points : (t : Tree) → IsTree t → leaf_nodes t.nodes ≤ points t.root
leaves_le_points t tree =
    omega (arith, leaf_nodes-total t.nodes, leaf_points t tree, total_to-le (length t.nodes) (λ k. leaf_weight (node_at t.nodes k).node) (weighted t.nodes (λ i. points (box_of t i))) (λ k h. each_has_a_point t k tree h))

-- so there are fewer nodes than twice the points
pub nodes_below_points : (t : Tree) → IsTree t → length t.nodes + 1 ≤ 2 * points t.root
nodes_below_points t tree = omega (arith, tree.leaves, leaves_le_points t tree)

-- and where a leaf has more than one point, there is room for a split
pub room_for_split : (t : Tree) (k : ℕ) → IsTree t → IsLeaf t k → 2 ≤ points (box_of t k) → length t.nodes + 3 ≤ 2 * points t.root
room_for_split t k tree is_leaf more =
    omega (
      arith,
      tree.leaves,
      leaf_nodes-total t.nodes,
      leaf_points t tree,
      total_to-less (length t.nodes) k (λ i. leaf_weight (node_at t.nodes i).node) (weighted t.nodes (λ i. points (box_of t i))) is_leaf.in_tree (λ i h. each_has_a_point t i tree h)
          (omega (arith, weighted_leaf t.nodes (λ i. points (box_of t i)) k is_leaf.leaf, ap leaf_weight is_leaf.leaf)),
    )

-- ---- the tree of boxes
leaf_count-tree_at : (nodes : List TreeNode) (depth i : ℕ) → leaf_count (tree_at depth nodes i) ≡ leaf_sum (λ _. 1) depth nodes i
leaf_count-tree_at nodes zero i = refl
leaf_count-tree_at nodes (suc depth) i =
    elim (leaf_or_split (node_at nodes i).node) [
      | inl leaf ↦
          ap (λ m. leaf_count (grown m (node_at nodes i).mult (tree_at depth nodes))) leaf ∙ ap (λ m. sum_below m 1 (leaf_sum (λ _. 1) depth nodes)) (sym leaf)
      | inr p ↦
          omega (
            arith,
            ap (λ m. leaf_count (grown m (node_at nodes i).mult (tree_at depth nodes))) p.is,
            ap (λ m. sum_below m 1 (leaf_sum (λ _. 1) depth nodes)) p.is,
            leaf_count-tree_at nodes depth p.left,
            leaf_count-tree_at nodes depth p.right,
          )
    ]

pub leaf_count-tree_of : (t : Tree) → IsTree t → leaf_count (tree_of t) ≡ leaf_nodes t.nodes
leaf_count-tree_of t tree =
    leaf_count-tree_at t.nodes (length t.nodes) 0
    ∙ leaf_sum-root t (λ _. 1) tree
    ∙ total_to-same (length t.nodes) (weighted t.nodes (λ _. 1)) (λ k. leaf_weight (node_at t.nodes k).node) (λ k _. omega arith)
    ∙ sym (leaf_nodes-total t.nodes)

cuts_at : (t : Tree) (depth i : ℕ) → IsTree t → i < length t.nodes → length t.nodes ≤ i + 1 + depth → HasCuts (box_of t i) (tree_at depth t.nodes i)
cuts_at t zero i tree inside deep = tt
cuts_at t (suc depth) i tree inside deep =
    elim (leaf_or_split (node_at t.nodes i).node) [
      | inl leaf ↦ subst (λ (m : Node). HasCuts (box_of t i) (grown m (node_at t.nodes i).mult (tree_at depth t.nodes))) (sym leaf) tt
      | inr p ↦
          let s : IsSplit t i p.quantity p.cut p.left p.right = children t i tree inside p in
          subst (λ (m : Node). HasCuts (box_of t i) (grown m (node_at t.nodes i).mult (tree_at depth t.nodes))) (sym p.is) (
            s.cut,
            subst (λ (b : Range). HasCuts b (tree_at depth t.nodes p.left)) (box_of-left t i p.quantity p.cut p.left p.right s) (cuts_at t depth p.left tree s.left_in_tree (omega (arith, s.left_later))),
            subst (λ (b : Range). HasCuts b (tree_at depth t.nodes p.right)) (box_of-right t i p.quantity p.cut p.left p.right s) (cuts_at t depth p.right tree s.right_in_tree (omega (arith, s.right_later))),
          )
    ]

-- each split of the tree of boxes is a cut of its box
pub cuts_of_tree : (t : Tree) → IsTree t → HasCuts t.root (tree_of t)
cuts_of_tree t tree =
    subst (λ (b : Range). HasCuts b (tree_of t)) (box_of-root t 0 tree.has_root tree.root_link) (cuts_at t (length t.nodes) 0 tree tree.has_root (omega arith))
