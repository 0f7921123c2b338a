-- Each point of the root's box lies in the box of just one leaf.
use Rattle.std.proofs.Common.{◌≡◌, ◌⊎◌, inl, inr, ℕ, zero, suc, ◌+◌, ◌<◌, ◌≤◌, ◌==◌, ◌||◌, true, List, length, Some, ℤ, refl, subst, ap, sym, ◌∙◌, arith}
use Rattle.std.proofs.lemmas.Bool.Decides.{nat_tests}
use Rattle.opt_sums.proofs.EntryLemmas.{same_or_other}
use Rattle.opt_system.specs.Ranges.{Range, IsOrdered, LiesIn, IsWithin}
use Rattle.opt_system.proofs.CutLemmas.{LiesIn-refl, LiesIn-trans, LiesIn-left, LiesIn-right, IsWithin-LiesIn, in_a_half, not_in_both}
use Rattle.opt_tree.specs.declared.node.Link.{Link}
use Rattle.opt_tree.specs.Nodes.{Tree, IsTree, IsLeaf, IsLinked, IsSplit, LiesInOne, is_child, node_at, box_of}
use Rattle.opt_tree.proofs.BoxLemmas.{IsBox, box_of-IsBox, box_of-left, box_of-right, LiesIn-changed}
use Rattle.opt_tree.proofs.NodeLemmas.{box_of-root, box_of-child}
use Rattle.opt_tree.proofs.Occurs.{leaf_or_split, children, not_leaf, link_there, one_other, below, below_leaf, below_split, occurs, occurs-once, occurs-deep}

-- ---- there is one
in_half : (t : Tree) (i j : ℕ) (c : ℤ) (l r : ℕ) (x : List ℤ) → IsTree t → i < length t.nodes → IsSplit t i j c l r → IsWithin (box_of t i) x → IsWithin (box_of t l) x ⊎ IsWithin (box_of t r) x
in_half t i j c l r x tree inside s within =
    elim (in_a_half (box_of t i) j c x (box_of-IsBox t i tree inside).ordered s.cut within) [
      | inl h ↦ inl (subst (λ (b : Range). IsWithin b x) (sym (box_of-left t i j c l r s)) h)
      | inr h ↦ inr (subst (λ (b : Range). IsWithin b x) (sym (box_of-right t i j c l r s)) h)
    ]

-- a leaf below node i with the point in its box
record Found (t : Tree) (x : List ℤ) : Type 0 where
  number : ℕ
  leaf : IsLeaf t number
  inside : IsWithin (box_of t number) x

found : (t : Tree) (depth i : ℕ) (x : List ℤ) → IsTree t → i < length t.nodes → length t.nodes ≤ i + depth → IsWithin (box_of t i) x → Found t x
found t zero i x tree inside deep within = absurd (omega arith)
found t (suc depth) i x tree inside deep within =
    elim (leaf_or_split (node_at t.nodes i).node) [
      | inl leaf ↦ record { number = i; leaf = record { in_tree = inside; leaf = leaf }; inside = within }
      | inr p ↦
          let s : IsSplit t i p.quantity p.cut p.left p.right = children t i tree inside p in
          elim (in_half t i p.quantity p.cut p.left p.right x tree inside s within) [
            | inl l ↦ found t depth p.left x tree s.left_in_tree (omega (arith, s.left_later)) l
            | inr r ↦ found t depth p.right x tree s.right_in_tree (omega (arith, s.right_later)) r
          ]
    ]

-- ---- and there is no other
left_or_right : (a b : ℕ) → 1 ≤ a + b → (1 ≤ a) ⊎ (1 ≤ b)
left_or_right a b h = grind arith

-- the box of a node in the tree at node i lies in that of node i
lies_below : (t : Tree) (k depth i : ℕ) → IsTree t → i < length t.nodes → 1 ≤ occurs k depth t.nodes i → LiesIn (box_of t i) (box_of t k)
lies_below t k zero i tree inside here =
    elim (same_or_other i k) [
      | inl e ↦ subst (λ (b : Range). LiesIn (box_of t i) b) (ap (box_of t) e) (LiesIn-refl (box_of t i))
      | inr e ↦ absurd (omega (arith, one_other i k e))
    ]
lies_below t k (suc depth) i tree inside here =
    elim (same_or_other i k) [
      | inl e ↦ subst (λ (b : Range). LiesIn (box_of t i) b) (ap (box_of t) e) (LiesIn-refl (box_of t i))
      | inr e ↦ elim (leaf_or_split (node_at t.nodes i).node) [
        | inl leaf ↦ absurd (omega (arith, one_other i k e, ap (λ m. below m (occurs k depth t.nodes)) leaf))
        | inr p ↦
            let s : IsSplit t i p.quantity p.cut p.left p.right = children t i tree inside p in
            let ordered : IsOrdered (box_of t i) = (box_of-IsBox t i tree inside).ordered in
            let some : 1 ≤ occurs k depth t.nodes p.left + occurs k depth t.nodes p.right = omega (arith, one_other i k e, ap (λ m. below m (occurs k depth t.nodes)) p.is) in
            elim (left_or_right (occurs k depth t.nodes p.left) (occurs k depth t.nodes p.right) some) [
              | inl l ↦
                  LiesIn-trans (box_of t i) (box_of t p.left) (box_of t k)
                  (subst (λ (b : Range). LiesIn (box_of t i) b) (sym (box_of-left t i p.quantity p.cut p.left p.right s)) (LiesIn-left (box_of t i) p.quantity p.cut ordered s.cut))
                  (lies_below t k depth p.left tree s.left_in_tree l)
              | inr r ↦
                  LiesIn-trans (box_of t i) (box_of t p.right) (box_of t k)
                  (subst (λ (b : Range). LiesIn (box_of t i) b) (sym (box_of-right t i p.quantity p.cut p.left p.right s)) (LiesIn-right (box_of t i) p.quantity p.cut s.cut))
                  (lies_below t k depth p.right tree s.right_in_tree r)
            ]
      ]
    ]

-- the point lies in the box of just one child
which_child : (a b k : ℕ) → ((k == a) || (k == b)) ≡ true → (k ≡ a) ⊎ (k ≡ b)
which_child a b k h = grind (arith, nat_tests)

-- a point in the boxes of a leaf and of a node: the leaf stands in the tree at that node
below_node : (t : Tree) (a : ℕ) (x : List ℤ) → IsTree t → IsLeaf t a → IsWithin (box_of t a) x → (bound b : ℕ) → b < bound → b < length t.nodes → IsWithin (box_of t b) x → 1 ≤ occurs a (length t.nodes) t.nodes b
below_node t a x tree leaf inside zero b small in_tree within = absurd (omega arith)
below_node t a x tree leaf inside (suc bound) zero small in_tree within = omega (arith, occurs-once t a (length t.nodes) tree leaf.in_tree (omega arith))
below_node t a x tree leaf inside (suc bound) (suc b) small in_tree within =
    let up : (u : Link) × ((node_at t.nodes (suc b)).link ≡ Some u) = link_there t (suc b) tree (omega arith) in_tree in
    let linked : IsLinked t (suc b) up.0 = tree.linked (suc b) up.0 in_tree up.1 in
    let parent : (up.0).parent < length t.nodes = omega (arith, linked.later) in
    elim (leaf_or_split (node_at t.nodes (up.0).parent).node) [
      | inl leaf_there ↦ absurd (not_leaf t (suc b) (up.0).parent up.0 linked leaf_there refl)
      | inr p ↦
          let s : IsSplit t (up.0).parent p.quantity p.cut p.left p.right = children t (up.0).parent tree parent p in
          let in_parent : IsWithin (box_of t (up.0).parent) x = within_parent t (suc b) up.0 x tree in_tree up.1 linked within in
          let here : 1 ≤ occurs a (length t.nodes) t.nodes (up.0).parent = below_node t a x tree leaf inside bound (up.0).parent (omega (arith, linked.later)) parent in_parent in
          let some : 1 ≤ occurs a (length t.nodes) t.nodes p.left + occurs a (length t.nodes) t.nodes p.right =
          omega (
            arith,
            occurs-deep t a (length t.nodes) (suc (length t.nodes)) (up.0).parent tree parent (omega arith) (omega arith),
            one_other (up.0).parent a (λ h. not_leaf t (suc b) a up.0 linked leaf.leaf (sym h)),
            below_split (node_at t.nodes (up.0).parent).node (occurs a (length t.nodes) t.nodes) p,
          )
          in
          the_child t a (suc b) (up.0).parent p.quantity p.cut p.left p.right x tree parent s inside within (which_child p.left p.right (suc b) (ap (λ m. is_child m (suc b)) (sym p.is) ∙ linked.child)) some
    ]
  where
    within_parent : (t : Tree) (i : ℕ) (k : Link) (x : List ℤ) → IsTree t → i < length t.nodes → (node_at t.nodes i).link ≡ Some k → IsLinked t i k → IsWithin (box_of t i) x → IsWithin (box_of t k.parent) x
    within_parent t i k x tree inside link linked within =
        let parent : IsBox t k.parent = box_of-IsBox t k.parent tree (omega (arith, linked.later)) in
        IsWithin-LiesIn (box_of t k.parent) (box_of t i) x
        (subst (λ (b : Range). LiesIn (box_of t k.parent) b) (sym (box_of-child t i k inside link linked.later)) (LiesIn-changed (box_of t k.parent) k parent.ordered linked.inward))
        within

    not_both : (t : Tree) (i j : ℕ) (c : ℤ) (l r : ℕ) (x : List ℤ) → IsTree t → i < length t.nodes → IsSplit t i j c l r → IsWithin (box_of t l) x → IsWithin (box_of t r) x → ⊥
    not_both t i j c l r x tree inside s in_left in_right =
        not_in_both (box_of t i) j c x (box_of-IsBox t i tree inside).ordered s.cut (subst (λ (b : Range). IsWithin b x) (box_of-left t i j c l r s) in_left) (subst (λ (b : Range). IsWithin b x) (box_of-right t i j c l r s) in_right)

    the_child : (t : Tree) (a b i j : ℕ) (c : ℤ) (l r : ℕ) (x : List ℤ) → IsTree t → i < length t.nodes → IsSplit t i j c l r → IsWithin (box_of t a) x → IsWithin (box_of t b) x → (b ≡ l) ⊎ (b ≡ r) → 1 ≤ occurs a (length t.nodes) t.nodes l + occurs a (length t.nodes) t.nodes r → 1 ≤ occurs a (length t.nodes) t.nodes b
    the_child t a b i j c l r x tree inside s in_leaf within which some =
        elim which [
          | inl e ↦ elim (left_or_right (occurs a (length t.nodes) t.nodes l) (occurs a (length t.nodes) t.nodes r) some) [
            | inl h ↦ subst (λ n. 1 ≤ occurs a (length t.nodes) t.nodes n) (sym e) h
            | inr h ↦
                absurd (not_both t i j c l r x tree inside s (subst (λ n. IsWithin (box_of t n) x) e within) (IsWithin-LiesIn (box_of t r) (box_of t a) x (lies_below t a (length t.nodes) r tree s.right_in_tree h) in_leaf))
          ]
          | inr e ↦ elim (left_or_right (occurs a (length t.nodes) t.nodes l) (occurs a (length t.nodes) t.nodes r) some) [
            | inl h ↦
                absurd (not_both t i j c l r x tree inside s (IsWithin-LiesIn (box_of t l) (box_of t a) x (lies_below t a (length t.nodes) l tree s.left_in_tree h) in_leaf) (subst (λ n. IsWithin (box_of t n) x) e within))
            | inr h ↦ subst (λ n. 1 ≤ occurs a (length t.nodes) t.nodes n) (sym e) h
          ]
        ]

-- two leaves with a point in common are one
one_leaf_at_most : (t : Tree) (a b : ℕ) (x : List ℤ) → IsTree t → IsLeaf t a → IsLeaf t b → IsWithin (box_of t a) x → IsWithin (box_of t b) x → b ≡ a
one_leaf_at_most t a b x tree leaf_a leaf_b in_a in_b =
    let here : 1 ≤ occurs a (length t.nodes) t.nodes b = below_node t a x tree leaf_a in_a (suc b) b (omega arith) leaf_b.in_tree in_b in
    elim (same_or_other b a) [
      | inl e ↦ e
      | inr e ↦
          absurd (omega (
            arith,
            here,
            occurs-deep t a (length t.nodes) (suc (length t.nodes)) b tree leaf_b.in_tree (omega arith) (omega arith),
            one_other b a e,
            below_leaf (node_at t.nodes b).node (occurs a (length t.nodes) t.nodes) leaf_b.leaf,
          ))
    ]

-- each point of the root's box lies in the box of just one leaf
pub in_one_leaf : (t : Tree) (x : List ℤ) → IsTree t → IsWithin t.root x → (k : ℕ) × LiesInOne t x k
in_one_leaf t x tree within =
    let f : Found t x = found t (length t.nodes) 0 x tree tree.has_root (omega arith) (subst (λ (b : Range). IsWithin b x) (sym (box_of-root t 0 tree.has_root tree.root_link)) within) in (
      f.number,
      record {
        leaf = f.leaf;
        inside = f.inside;
        alone = λ i leaf inside. one_leaf_at_most t f.number i x tree f.leaf leaf f.inside inside;
      },
    )
