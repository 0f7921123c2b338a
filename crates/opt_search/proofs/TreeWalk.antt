-- What holds of each leaf, and of a split where it holds of its children, holds of the tree that a list of nodes makes.
use Rattle.std.proofs.Common.{◌≡◌, ◌≢◌, ◌⊎◌, inl, inr, ℕ, zero, suc, ◌+◌, ◌<◌, ◌≤◌, length, ℤ, subst, ap, sym, ◌∙◌, arith}
use Rattle.opt_sums.proofs.EntryLemmas.{same_or_other}
use Rattle.opt_tree.specs.declared.node.Node.TheVariants.{Leaf, Split}
use Rattle.opt_tree.specs.Trees.{BoxTree, leaf, split}
use Rattle.opt_tree.specs.Nodes.{Tree, IsTree, IsLeaf, IsSplit, node_at, grown, tree_at}
use Rattle.opt_tree.proofs.Occurs.{leaf_or_split, one_other, below, occurs, occurs-once}

-- node k stands in the tree at node i, down to this depth
abbrev pub IsUnder : Tree → ℕ → ℕ → ℕ → Type 0
IsUnder t depth i k = 1 ≤ occurs k depth t.nodes i

pub walk : (t : Tree) (P : ℕ → ℕ → BoxTree → Type 0) → IsTree t → ((d i : ℕ) → IsLeaf t i → P (suc d) i (leaf (node_at t.nodes i).mult)) → ((d i j : ℕ) (c : ℤ) (l r : ℕ) (u v : BoxTree) → i < length t.nodes → (node_at t.nodes i).node ≡ Split j c l r → IsSplit t i j c l r → P d l u → P d r v → P (suc d) i (split j c u v)) → (d i : ℕ) → i < length t.nodes → length t.nodes ≤ i + d → P d i (tree_at d t.nodes i)
walk t P tree on_leaf on_split zero i inside deep = absurd (omega arith)
walk t P tree on_leaf on_split (suc d) i inside deep =
    elim (leaf_or_split (node_at t.nodes i).node) [
      | inl e ↦
          subst (P (suc d) i) (sym (ap (λ n. grown n (node_at t.nodes i).mult (tree_at d t.nodes)) e)) (on_leaf d i (record { in_tree = inside; leaf = e }))
      | inr n ↦
          let is : IsSplit t i n.quantity n.cut n.left n.right = tree.splits i n.quantity n.cut n.left n.right inside n.is in
          subst (P (suc d) i) (sym (ap (λ m. grown m (node_at t.nodes i).mult (tree_at d t.nodes)) n.is))
          (on_split d i n.quantity n.cut n.left n.right (tree_at d t.nodes n.left) (tree_at d t.nodes n.right) inside n.is is
          (walk t P tree on_leaf on_split d n.left is.left_in_tree (omega (arith, is.left_later)))
          (walk t P tree on_leaf on_split d n.right is.right_in_tree (omega (arith, is.right_later))))
    ]

-- only the leaf itself stands in the tree at a leaf
pub under_leaf : (t : Tree) (d i k : ℕ) → IsLeaf t i → IsUnder t (suc d) i k → i ≡ k
under_leaf t d i k is h =
    elim (same_or_other i k) [
      | inl e ↦ e
      | inr e ↦ absurd (omega (arith, one_other i k e, ap (λ n. below n (occurs k d t.nodes)) is.leaf))
    ]

-- a leaf in the tree at a split stands in the tree at one of its children
pub under_split : (t : Tree) (d i k j : ℕ) (c : ℤ) (l r : ℕ) → (node_at t.nodes i).node ≡ Split j c l r → IsLeaf t k → IsUnder t (suc d) i k → IsUnder t d l k ⊎ IsUnder t d r k
under_split t d i k j c l r e is h =
    let apart : i ≢ k = λ p. let both : Leaf ≡ Split j c l r = sym is.leaf ∙ ap (λ n. (node_at t.nodes n).node) (sym p) ∙ e in cc in
    either (occurs k d t.nodes l) (occurs k d t.nodes r) (omega (arith, one_other i k apart, ap (λ n. below n (occurs k d t.nodes)) e))
  where
    either : (a b : ℕ) → 1 ≤ a + b → (1 ≤ a) ⊎ (1 ≤ b)
    either a b h = grind arith

-- each node stands in the tree of all nodes
pub under_root : (t : Tree) (k : ℕ) → IsTree t → k < length t.nodes → IsUnder t (length t.nodes) 0 k
under_root t k tree inside = omega (arith, occurs-once t k (length t.nodes) tree inside (omega arith))
