-- After a split the tree of boxes is the one before it with that leaf split.
use Rattle.std.proofs.Common.{◌≡◌, ◌≢◌, inl, inr, ℕ, zero, suc, ◌+◌, ◌<◌, ◌≤◌, ◌==◌, true, false, cond, List, length, ℤ, refl, ap, sym, ◌∙◌, arith}
use Rattle.std.proofs.lemmas.Bool.Decides.{nat_tests}
use Rattle.opt_sums.proofs.EntryLemmas.{same_or_other}
use Rattle.opt_bound.specs.Multipliers.{Multipliers}
use Rattle.opt_tree.specs.declared.node.Node.{Node}
use Rattle.opt_tree.specs.declared.node.Node.TheVariants.{Leaf, Split}
use Rattle.opt_tree.specs.declared.node.TreeNode.{TreeNode}
use Rattle.opt_tree.specs.Trees.{BoxTree, leaf, split}
use Rattle.opt_tree.specs.Nodes.{Tree, IsTree, IsLeaf, IsSplit, node_at, tree_at, tree_of, grown, split_at, child_of, link_left, link_right}
use Rattle.opt_tree.proofs.SplitLemmas.{length-split_at, node_at-split_other, node_at-split_same, node_at-split_left, node_at-split_right}
use Rattle.opt_tree.proofs.Occurs.{leaf_or_split, children, last_is_leaf}

-- the tree at node i, down to this depth, where each leaf is what f makes of its number and its multipliers
abbrev pub grown_with : Node → BoxTree → (ℕ → BoxTree) → BoxTree
grown_with Leaf here below = here
grown_with (Split j c l r) here below = split j c (below l) (below r)

abbrev pub grafted : (ℕ → Multipliers → BoxTree) → ℕ → List TreeNode → ℕ → BoxTree
grafted f zero nodes i = f i (node_at nodes i).mult
grafted f (suc depth) nodes i = grown_with (node_at nodes i).node (f i (node_at nodes i).mult) (grafted f depth nodes)

-- leaf i split at the cut c of quantity j, and each other leaf as it is
abbrev pub split_leaf : ℕ → ℕ → ℤ → ℕ → Multipliers → BoxTree
split_leaf i j c k m = cond (k == i) (split j c (leaf m) (leaf m)) (leaf m)

-- the tree itself is grown from its leaves as they are
grown_same : (n : Node) (m : Multipliers) (f g : ℕ → BoxTree) → ((k : ℕ) → f k ≡ g k) → grown_with n (leaf m) f ≡ grown n m g
grown_same Leaf m f g h = refl
grown_same (Split j c l r) m f g h = ap (λ t. split j c t (f r)) (h l) ∙ ap (λ t. split j c (g l) t) (h r)

pub grafted-leaf : (nodes : List TreeNode) (depth i : ℕ) → grafted (λ _ m. leaf m) depth nodes i ≡ tree_at depth nodes i
grafted-leaf nodes zero i = refl
grafted-leaf nodes (suc depth) i = grown_same (node_at nodes i).node (node_at nodes i).mult (grafted (λ _ m. leaf m) depth nodes) (tree_at depth nodes) (λ k. grafted-leaf nodes depth k)

-- a greater depth changes nothing
pub grafted-deep : (t : Tree) (f : ℕ → Multipliers → BoxTree) (d e i : ℕ) → IsTree t → i < length t.nodes → length t.nodes ≤ i + 1 + d → length t.nodes ≤ i + 1 + e → grafted f d t.nodes i ≡ grafted f e t.nodes i
grafted-deep t f zero zero i tree inside deep deeper = refl
grafted-deep t f zero (suc e) i tree inside deep deeper =
    ap (λ n. grown_with n (f i (node_at t.nodes i).mult) (grafted f e t.nodes)) (sym (last_is_leaf t i tree inside (omega arith)))
grafted-deep t f (suc d) zero i tree inside deep deeper =
    ap (λ n. grown_with n (f i (node_at t.nodes i).mult) (grafted f d t.nodes)) (last_is_leaf t i tree inside (omega arith))
grafted-deep t f (suc d) (suc e) i tree inside deep deeper =
    elim (leaf_or_split (node_at t.nodes i).node) [
      | inl at_leaf ↦
          ap (λ n. grown_with n (f i (node_at t.nodes i).mult) (grafted f d t.nodes)) at_leaf ∙ ap (λ n. grown_with n (f i (node_at t.nodes i).mult) (grafted f e t.nodes)) (sym at_leaf)
      | inr p ↦
          let s : IsSplit t i p.quantity p.cut p.left p.right = children t i tree inside p in
          ap (λ n. grown_with n (f i (node_at t.nodes i).mult) (grafted f d t.nodes)) p.is
          ∙ ap (λ b. split p.quantity p.cut b (grafted f d t.nodes p.right)) (grafted-deep t f d e p.left tree s.left_in_tree (omega (arith, s.left_later)) (omega (arith, s.left_later)))
          ∙ ap (λ b. split p.quantity p.cut (grafted f e t.nodes p.left) b) (grafted-deep t f d e p.right tree s.right_in_tree (omega (arith, s.right_later)) (omega (arith, s.right_later)))
          ∙ ap (λ n. grown_with n (f i (node_at t.nodes i).mult) (grafted f e t.nodes)) (sym p.is)
    ]

-- a new leaf is a leaf at any depth
new_leaf : (nodes : List TreeNode) (depth i : ℕ) (m : TreeNode) → node_at nodes i ≡ m → m.node ≡ Leaf → tree_at depth nodes i ≡ leaf m.mult
new_leaf nodes zero i m is at_leaf = ap (λ (n : TreeNode). leaf n.mult) is
new_leaf nodes (suc depth) i m is at_leaf =
    ap (λ (n : TreeNode). grown n.node n.mult (tree_at depth nodes)) is ∙ ap (λ k. grown k m.mult (tree_at depth nodes)) at_leaf

-- the node that is split
split_here : (t : Tree) (i j : ℕ) (c : ℤ) (depth : ℕ) → i < length t.nodes → tree_at (suc depth) (split_at t i j c).nodes i ≡ split j c (leaf (node_at t.nodes i).mult) (leaf (node_at t.nodes i).mult)
split_here t i j c depth inside =
    ap (λ (n : TreeNode). grown n.node n.mult (tree_at depth (split_at t i j c).nodes)) (node_at-split_same t i j c inside)
    ∙ ap (λ b. split j c b (tree_at depth (split_at t i j c).nodes (length t.nodes + 1))) (new_leaf (split_at t i j c).nodes depth (length t.nodes) (child_of (node_at t.nodes i) (link_left i j c)) (node_at-split_left t i j c) refl)
    ∙ ap (λ b. split j c (leaf (node_at t.nodes i).mult) b) (new_leaf (split_at t i j c).nodes depth (length t.nodes + 1) (child_of (node_at t.nodes i) (link_right i j c)) (node_at-split_right t i j c) refl)

at_same : (k i j : ℕ) (c : ℤ) (m : Multipliers) → k ≡ i → split_leaf i j c k m ≡ split j c (leaf m) (leaf m)
at_same k i j c m h = let yes : (k == i) ≡ true = grind (arith, nat_tests) in ap (λ b. cond b (split j c (leaf m) (leaf m)) (leaf m)) yes

at_other : (k i j : ℕ) (c : ℤ) (m : Multipliers) → k ≢ i → split_leaf i j c k m ≡ leaf m
at_other k i j c m h = let other : (k == i) ≡ false = grind (arith, nat_tests) in ap (λ b. cond b (split j c (leaf m) (leaf m)) (leaf m)) other

-- the tree after the split, node by node
split_below : (t : Tree) (i j : ℕ) (c : ℤ) (depth k : ℕ) → IsTree t → IsLeaf t i → k < length t.nodes → length t.nodes ≤ k + 1 + depth → tree_at (suc depth) (split_at t i j c).nodes k ≡ grafted (split_leaf i j c) depth t.nodes k
split_below t i j c zero k tree is_leaf inside deep =
    elim (same_or_other k i) [
      | inl e ↦
          let p : k ≡ i = e in
          ap (tree_at 1 (split_at t i j c).nodes) p ∙ split_here t i j c 0 is_leaf.in_tree ∙ ap (λ n. split j c (leaf (node_at t.nodes n).mult) (leaf (node_at t.nodes n).mult)) (sym p) ∙ sym (at_same k i j c (node_at t.nodes k).mult p)
      | inr e ↦
          new_leaf (split_at t i j c).nodes 1 k (node_at t.nodes k) (node_at-split_other t i j c k inside e) (last_is_leaf t k tree inside (omega arith)) ∙ sym (at_other k i j c (node_at t.nodes k).mult e)
    ]
split_below t i j c (suc depth) k tree is_leaf inside deep =
    elim (same_or_other k i) [
      | inl e ↦
          let p : k ≡ i = e in
          let at_leaf : (node_at t.nodes k).node ≡ Leaf = ap (λ n. (node_at t.nodes n).node) p ∙ is_leaf.leaf in
          ap (tree_at (suc (suc depth)) (split_at t i j c).nodes) p
          ∙ split_here t i j c (suc depth) is_leaf.in_tree
          ∙ ap (λ n. split j c (leaf (node_at t.nodes n).mult) (leaf (node_at t.nodes n).mult)) (sym p)
          ∙ sym (at_same k i j c (node_at t.nodes k).mult p)
          ∙ ap (λ n. grown_with n (split_leaf i j c k (node_at t.nodes k).mult) (grafted (split_leaf i j c) depth t.nodes)) (sym at_leaf)
      | inr e ↦ elim (leaf_or_split (node_at t.nodes k).node) [
        | inl at_leaf ↦
            new_leaf (split_at t i j c).nodes (suc (suc depth)) k (node_at t.nodes k) (node_at-split_other t i j c k inside e) at_leaf
            ∙ sym (at_other k i j c (node_at t.nodes k).mult e)
            ∙ ap (λ n. grown_with n (split_leaf i j c k (node_at t.nodes k).mult) (grafted (split_leaf i j c) depth t.nodes)) (sym at_leaf)
        | inr p ↦
            let s : IsSplit t k p.quantity p.cut p.left p.right = children t k tree inside p in
            ap (λ (n : TreeNode). grown n.node n.mult (tree_at (suc depth) (split_at t i j c).nodes)) (node_at-split_other t i j c k inside e)
            ∙ ap (λ n. grown n (node_at t.nodes k).mult (tree_at (suc depth) (split_at t i j c).nodes)) p.is
            ∙ ap (λ b. split p.quantity p.cut b (tree_at (suc depth) (split_at t i j c).nodes p.right)) (split_below t i j c depth p.left tree is_leaf s.left_in_tree (omega (arith, s.left_later)))
            ∙ ap (λ b. split p.quantity p.cut (grafted (split_leaf i j c) depth t.nodes p.left) b) (split_below t i j c depth p.right tree is_leaf s.right_in_tree (omega (arith, s.right_later)))
            ∙ ap (λ n. grown_with n (split_leaf i j c k (node_at t.nodes k).mult) (grafted (split_leaf i j c) depth t.nodes)) (sym p.is)
      ]
    ]

-- the tree after the split is the one before it with that leaf split, and both halves have the leaf's multipliers
pub tree_of-split_at : (t : Tree) (i j : ℕ) (c : ℤ) → IsTree t → IsLeaf t i → tree_of (split_at t i j c) ≡ grafted (split_leaf i j c) (length t.nodes) t.nodes 0
tree_of-split_at t i j c tree is_leaf =
    let more : length (split_at t i j c).nodes ≡ suc (suc (length t.nodes)) = omega (arith, length-split_at t i j c) in
    ap (λ d. tree_at d (split_at t i j c).nodes 0) more
    ∙ split_below t i j c (suc (length t.nodes)) 0 tree is_leaf tree.has_root (omega arith)
    ∙ grafted-deep t (split_leaf i j c) (suc (length t.nodes)) (length t.nodes) 0 tree tree.has_root (omega arith) (omega arith)
