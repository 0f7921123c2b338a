-- A tree with a leaf split at a cut of its box is a tree.
use Rattle.std.proofs.Common.{◌≡◌, ◌≢◌, ◌⊎◌, inl, inr, ℕ, ◌+◌, ◌<◌, ◌≤◌, true, length, Some, is_some, ℤ, refl, subst, ap, sym, ◌∙◌, arith}
use Rattle.std.proofs.lemmas.Int.{ints}
use Rattle.std.proofs.lemmas.Bool.Decides.{nat_tests}
use Rattle.opt_sums.proofs.EntryLemmas.{same_or_other}
use Rattle.opt_system.specs.Ranges.{Range}
use Rattle.opt_system.specs.Cuts.{IsCut}
use Rattle.opt_tree.specs.declared.limits.TheConstants.{NODE_LIMIT}
use Rattle.opt_tree.specs.declared.node.Node.TheVariants.{Leaf, Split}
use Rattle.opt_tree.specs.declared.node.Link.{Link}
use Rattle.opt_tree.specs.declared.node.TreeNode.{TreeNode}
use Rattle.opt_tree.specs.Nodes.{Tree, IsTree, IsLeaf, IsLinked, IsSplit, IsInward, is_child, node_at, box_of, split_at, link_left, link_right}
use Rattle.opt_tree.proofs.SplitLemmas.{length-split_at, node_at-split_other, node_at-split_same, node_at-split_left, node_at-split_right, link-split, box_of-split, leaf_nodes-split}

-- a number below n + 2
three : (k n : ℕ) → k < n + 2 → ((k < n) ⊎ (k ≡ n)) ⊎ (k ≡ n + 1)
three k n h = grind arith

-- what is known of a split that is made
record Made (t : Tree) (i j : ℕ) (c : ℤ) : Type 0 where
  tree : IsTree t
  is_leaf : IsLeaf t i
  cut : IsCut (box_of t i) j c

kind-left : (t : Tree) (i j : ℕ) (c : ℤ) → (node_at (split_at t i j c).nodes (length t.nodes)).node ≡ Leaf
kind-left t i j c = ap (λ (n : TreeNode). n.node) (node_at-split_left t i j c)

kind-right : (t : Tree) (i j : ℕ) (c : ℤ) → (node_at (split_at t i j c).nodes (length t.nodes + 1)).node ≡ Leaf
kind-right t i j c = ap (λ (n : TreeNode). n.node) (node_at-split_right t i j c)

kind-same : (t : Tree) (i j : ℕ) (c : ℤ) → i < length t.nodes → (node_at (split_at t i j c).nodes i).node ≡ Split j c (length t.nodes) (length t.nodes + 1)
kind-same t i j c h = ap (λ (n : TreeNode). n.node) (node_at-split_same t i j c h)

kind-other : (t : Tree) (i j : ℕ) (c : ℤ) (k : ℕ) → k < length t.nodes → k ≢ i → (node_at (split_at t i j c).nodes k).node ≡ (node_at t.nodes k).node
kind-other t i j c k h other = ap (λ (n : TreeNode). n.node) (node_at-split_other t i j c k h other)

link-left : (t : Tree) (i j : ℕ) (c : ℤ) → (node_at (split_at t i j c).nodes (length t.nodes)).link ≡ Some (link_left i j c)
link-left t i j c = ap (λ (n : TreeNode). n.link) (node_at-split_left t i j c)

link-right : (t : Tree) (i j : ℕ) (c : ℤ) → (node_at (split_at t i j c).nodes (length t.nodes + 1)).link ≡ Some (link_right i j c)
link-right t i j c = ap (λ (n : TreeNode). n.link) (node_at-split_right t i j c)

-- ---- links
child_left : (j n : ℕ) (c : ℤ) → is_child (Split j c n (n + 1)) n ≡ true
child_left j n c = grind (arith, nat_tests)

child_right : (j n : ℕ) (c : ℤ) → is_child (Split j c n (n + 1)) (n + 1) ≡ true
child_right j n c = grind (arith, nat_tests)

inward_left : (t : Tree) (i j : ℕ) (c : ℤ) → IsCut (box_of t i) j c → IsInward (box_of t i) (link_left i j c)
inward_left t i j c cut = record { quantity = cut.quantity; from_low = cut.from_low; to_high = omega (arith, ints, cut.below_high) }

inward_right : (t : Tree) (i j : ℕ) (c : ℤ) → IsCut (box_of t i) j c → IsInward (box_of t i) (link_right i j c)
inward_right t i j c cut = record { quantity = cut.quantity; from_low = omega (arith, ints, cut.from_low); to_high = omega (arith, ints, cut.below_high) }

old_linked : (t : Tree) (i j : ℕ) (c : ℤ) (m : ℕ) (k : Link) → Made t i j c → m < length t.nodes → IsLinked t m k → IsLinked (split_at t i j c) m k
old_linked t i j c m k made below old =
    let parent : k.parent < length t.nodes = omega (arith, old.later) in
    record {
      later = old.later;
      child = elim (same_or_other k.parent i) [
        | inl e ↦
            let p : k.parent ≡ i = e in
            let kind : (node_at t.nodes k.parent).node ≡ Leaf = ap (λ n. (node_at t.nodes n).node) p ∙ made.is_leaf.leaf in
            absurd (cc (ap (λ n. is_child n m) kind, old.child))
        | inr e ↦
            let p : k.parent ≢ i = e in
            ap (λ n. is_child n m) (kind-other t i j c k.parent parent p) ∙ old.child
      ];
      inward = subst (λ (b : Range). IsInward b k) (sym (box_of-split t i j c k.parent parent)) old.inward;
    }

new_linked : (t : Tree) (i j : ℕ) (c : ℤ) (m : ℕ) (k l : Link) → Made t i j c → Some l ≡ Some k → l.parent ≡ i → i < m → is_child (Split j c (length t.nodes) (length t.nodes + 1)) m ≡ true → IsInward (box_of t i) l → IsLinked (split_at t i j c) m k
new_linked t i j c m k l made is parent later child inward =
    let same : l ≡ k = cc in
    let P : Link → Type 0 = λ z. IsLinked (split_at t i j c) m z in
    subst P same (record {
      later = omega (arith, parent);
      child = ap (λ p. is_child (node_at (split_at t i j c).nodes p).node m) parent ∙ ap (λ n. is_child n m) (kind-same t i j c made.is_leaf.in_tree) ∙ child;
      inward = subst (λ (b : Range). IsInward b l) (sym (ap (box_of (split_at t i j c)) parent ∙ box_of-split t i j c i made.is_leaf.in_tree)) inward;
    })

linked_after : (t : Tree) (i j : ℕ) (c : ℤ) → Made t i j c → (m : ℕ) (k : Link) → m < length (split_at t i j c).nodes → (node_at (split_at t i j c).nodes m).link ≡ Some k → IsLinked (split_at t i j c) m k
linked_after t i j c made m k below is =
    elim (three m (length t.nodes) (omega (arith, length-split_at t i j c))) [
      | inl e ↦ elim e [
        | inl f ↦
            let before : m < length t.nodes = f in
            old_linked t i j c m k made before (made.tree.linked m k before (sym (link-split t i j c m before) ∙ is))
        | inr f ↦
            let p : m ≡ length t.nodes = f in
            let here : Some (link_left i j c) ≡ Some k = sym (link-left t i j c) ∙ ap (λ n. (node_at (split_at t i j c).nodes n).link) (sym p) ∙ is in
            new_linked t i j c m k (link_left i j c) made here refl (omega (arith, made.is_leaf.in_tree)) (ap (is_child (Split j c (length t.nodes) (length t.nodes + 1))) p ∙ child_left j (length t.nodes) c) (inward_left t i j c made.cut)
      ]
      | inr e ↦
          let p : m ≡ length t.nodes + 1 = e in
          let here : Some (link_right i j c) ≡ Some k = sym (link-right t i j c) ∙ ap (λ n. (node_at (split_at t i j c).nodes n).link) (sym p) ∙ is in
          new_linked t i j c m k (link_right i j c) made here refl (omega (arith, made.is_leaf.in_tree)) (ap (is_child (Split j c (length t.nodes) (length t.nodes + 1))) p ∙ child_right j (length t.nodes) c) (inward_right t i j c made.cut)
    ]

each_after : (t : Tree) (i j : ℕ) (c : ℤ) → Made t i j c → (m : ℕ) → 0 < m → m < length (split_at t i j c).nodes → is_some (node_at (split_at t i j c).nodes m).link ≡ true
each_after t i j c made m from below =
    elim (three m (length t.nodes) (omega (arith, length-split_at t i j c))) [
      | inl e ↦ elim e [
        | inl f ↦
            let before : m < length t.nodes = f in
            ap is_some (link-split t i j c m before) ∙ made.tree.each_linked m from before
        | inr f ↦
            let p : m ≡ length t.nodes = f in
            ap (λ n. is_some (node_at (split_at t i j c).nodes n).link) p ∙ ap is_some (link-left t i j c)
      ]
      | inr e ↦
          let p : m ≡ length t.nodes + 1 = e in
          ap (λ n. is_some (node_at (split_at t i j c).nodes n).link) p ∙ ap is_some (link-right t i j c)
    ]

-- ---- splits
old_split : (t : Tree) (i j : ℕ) (c : ℤ) (m a : ℕ) (d : ℤ) (l r : ℕ) → m < length t.nodes → IsSplit t m a d l r → IsSplit (split_at t i j c) m a d l r
old_split t i j c m a d l r below old = record {
  cut = subst (λ (b : Range). IsCut b a d) (sym (box_of-split t i j c m below)) old.cut;
  left_later = old.left_later;
  right_later = old.right_later;
  left_in_tree = omega (arith, old.left_in_tree, length-split_at t i j c);
  right_in_tree = omega (arith, old.right_in_tree, length-split_at t i j c);
  left_link = link-split t i j c l old.left_in_tree ∙ old.left_link;
  right_link = link-split t i j c r old.right_in_tree ∙ old.right_link;
}

pub split_made : (t : Tree) (i j : ℕ) (c : ℤ) → i < length t.nodes → IsCut (box_of t i) j c → IsSplit (split_at t i j c) i j c (length t.nodes) (length t.nodes + 1)
split_made t i j c below cut = record {
  cut = subst (λ (b : Range). IsCut b j c) (sym (box_of-split t i j c i below)) cut;
  left_later = below;
  right_later = omega arith;
  left_in_tree = omega (arith, length-split_at t i j c);
  right_in_tree = omega (arith, length-split_at t i j c);
  left_link = link-left t i j c;
  right_link = link-right t i j c;
}

splits_after : (t : Tree) (i j : ℕ) (c : ℤ) → Made t i j c → (m a : ℕ) (d : ℤ) (l r : ℕ) → m < length (split_at t i j c).nodes → (node_at (split_at t i j c).nodes m).node ≡ Split a d l r → IsSplit (split_at t i j c) m a d l r
splits_after t i j c made m a d l r below is =
    elim (three m (length t.nodes) (omega (arith, length-split_at t i j c))) [
      | inl e ↦ elim e [
        | inl f ↦
            let before : m < length t.nodes = f in
            elim (same_or_other m i) [
              | inl g ↦
                  let p : m ≡ i = g in
                  let here : Split j c (length t.nodes) (length t.nodes + 1) ≡ Split a d l r = sym (kind-same t i j c made.is_leaf.in_tree) ∙ ap (λ n. (node_at (split_at t i j c).nodes n).node) (sym p) ∙ is in
                  the_same t i j c made m a d l r p here
              | inr g ↦
                  let p : m ≢ i = g in
                  old_split t i j c m a d l r before (made.tree.splits m a d l r before (sym (kind-other t i j c m before p) ∙ is))
            ]
        | inr f ↦
            let p : m ≡ length t.nodes = f in
            let here : Leaf ≡ Split a d l r = sym (kind-left t i j c) ∙ ap (λ n. (node_at (split_at t i j c).nodes n).node) (sym p) ∙ is in
            cc
      ]
      | inr e ↦
          let p : m ≡ length t.nodes + 1 = e in
          let here : Leaf ≡ Split a d l r = sym (kind-right t i j c) ∙ ap (λ n. (node_at (split_at t i j c).nodes n).node) (sym p) ∙ is in
          cc
    ]
  where
    the_same : (t : Tree) (i j : ℕ) (c : ℤ) → Made t i j c → (m a : ℕ) (d : ℤ) (l r : ℕ) → m ≡ i → Split j c (length t.nodes) (length t.nodes + 1) ≡ Split a d l r → IsSplit (split_at t i j c) m a d l r
    the_same t i j c made m a d l r at_i is =
        let ja : j ≡ a = cc in
        let cd : c ≡ d = cc in
        let nl : length t.nodes ≡ l = cc in
        let nr : length t.nodes + 1 ≡ r = cc in
        let whole : IsSplit (split_at t i j c) i j c (length t.nodes) (length t.nodes + 1) = split_made t i j c made.is_leaf.in_tree made.cut in
        let m_is : IsSplit (split_at t i j c) m j c (length t.nodes) (length t.nodes + 1) = subst (λ n. IsSplit (split_at t i j c) n j c (length t.nodes) (length t.nodes + 1)) (sym at_i) whole in
        let a_is : IsSplit (split_at t i j c) m a c (length t.nodes) (length t.nodes + 1) = subst (λ n. IsSplit (split_at t i j c) m n c (length t.nodes) (length t.nodes + 1)) ja m_is in
        let d_is : IsSplit (split_at t i j c) m a d (length t.nodes) (length t.nodes + 1) = subst (λ n. IsSplit (split_at t i j c) m a n (length t.nodes) (length t.nodes + 1)) cd a_is in
        let l_is : IsSplit (split_at t i j c) m a d l (length t.nodes + 1) = subst (λ n. IsSplit (split_at t i j c) m a d n (length t.nodes + 1)) nl d_is in
        subst (λ n. IsSplit (split_at t i j c) m a d l n) nr l_is

pub IsTree-split_at : (t : Tree) (i j : ℕ) (c : ℤ) → IsTree t → IsLeaf t i → IsCut (box_of t i) j c → length t.nodes + 2 ≤ NODE_LIMIT → IsTree (split_at t i j c)
IsTree-split_at t i j c tree is_leaf cut room =
    let made : Made t i j c = record { tree = tree; is_leaf = is_leaf; cut = cut } in
    record {
      ordered = tree.ordered;
      has_root = omega (arith, length-split_at t i j c);
      few = omega (arith, length-split_at t i j c);
      root_link = link-split t i j c 0 tree.has_root ∙ tree.root_link;
      each_linked = each_after t i j c made;
      linked = linked_after t i j c made;
      splits = splits_after t i j c made;
      leaves = omega (arith, length-split_at t i j c, leaf_nodes-split t i j c is_leaf, tree.leaves);
    }
