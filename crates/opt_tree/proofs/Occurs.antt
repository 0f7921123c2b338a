-- Each node of a tree stands in it just once, so sums over the leaves of the tree are sums over the nodes that are leaves.
use Rattle.std.proofs.Common.{◌≡◌, ◌≢◌, ◌⊎◌, inl, inr, ℕ, zero, suc, ◌+◌, ◌<◌, ◌≤◌, ◌==◌, ◌||◌, true, cond, List, length, Option, Some, None, is_some, ℤ, refl, ap, sym, ◌∙◌, arith}
use Rattle.std.proofs.lemmas.Bool.Decides.{nat_tests}
use Rattle.opt_sums.proofs.EntryLemmas.{same_or_other}
use Rattle.opt_tree.specs.declared.node.Node.{Node}
use Rattle.opt_tree.specs.declared.node.Node.TheVariants.{Leaf, Split}
use Rattle.opt_tree.specs.declared.node.End.{End}
use Rattle.opt_tree.specs.declared.node.End.TheVariants.{Low, High}
use Rattle.opt_tree.specs.declared.node.Link.{Link}
use Rattle.opt_tree.specs.declared.node.TreeNode.{TreeNode}
use Rattle.opt_tree.specs.Nodes.{Tree, IsTree, IsLinked, IsSplit, is_child, node_at, link_left, link_right}

-- ---- what a node is
pub record IsParted (m : Node) : Type 0 where
  pub quantity : ℕ
  pub cut : ℤ
  pub left : ℕ
  pub right : ℕ
  pub is : m ≡ Split quantity cut left right

pub leaf_or_split : (m : Node) → (m ≡ Leaf) ⊎ IsParted m
leaf_or_split Leaf = inl refl
leaf_or_split (Split j c l r) = inr (record { quantity = j; cut = c; left = l; right = r; is = refl })

-- the children of node i, which is split
pub children : (t : Tree) (i : ℕ) → IsTree t → i < length t.nodes → (p : IsParted (node_at t.nodes i).node) → IsSplit t i p.quantity p.cut p.left p.right
children t i tree below p = tree.splits i p.quantity p.cut p.left p.right below p.is

-- ---- how often a node stands in the tree at another
abbrev pub one : ℕ → ℕ → ℕ
one i k = cond (i == k) 1 0

pub one_same : (i k : ℕ) → i ≡ k → one i k ≡ 1
one_same i k h = grind (arith, nat_tests)

pub one_other : (i k : ℕ) → i ≢ k → one i k ≡ 0
one_other i k h = grind (arith, nat_tests)

abbrev pub below : Node → (ℕ → ℕ) → ℕ
below Leaf f = 0
below (Split j c l r) f = f l + f r

-- how often node k stands in the tree at node i, down to this depth
abbrev pub occurs : ℕ → ℕ → List TreeNode → ℕ → ℕ
occurs k zero nodes i = one i k
occurs k (suc depth) nodes i = one i k + below (node_at nodes i).node (occurs k depth nodes)

pub below_leaf : (m : Node) (f : ℕ → ℕ) → m ≡ Leaf → below m f ≡ 0
below_leaf m f is = ap (λ n. below n f) is

pub below_split : (m : Node) (f : ℕ → ℕ) (p : IsParted m) → below m f ≡ f p.left + f p.right
below_split m f p = ap (λ n. below n f) p.is

-- what stands in the tree at a node does not come before it
occurs-before : (t : Tree) (k depth i : ℕ) → IsTree t → i < length t.nodes → k < i → occurs k depth t.nodes i ≡ 0
occurs-before t k zero i tree inside before = one_other i k (omega arith)
occurs-before t k (suc depth) i tree inside before =
    let here : one i k ≡ 0 = one_other i k (omega arith) in
    elim (leaf_or_split (node_at t.nodes i).node) [
      | inl leaf ↦ omega (arith, here, below_leaf (node_at t.nodes i).node (occurs k depth t.nodes) leaf)
      | inr p ↦
          let s : IsSplit t i p.quantity p.cut p.left p.right = children t i tree inside p in
          omega (arith, here, below_split (node_at t.nodes i).node (occurs k depth t.nodes) p, occurs-before t k depth p.left tree s.left_in_tree (omega (arith, s.left_later)), occurs-before t k depth p.right tree s.right_in_tree (omega (arith, s.right_later)))
    ]

-- nothing of node k stands below it
below_itself : (t : Tree) (depth i : ℕ) → IsTree t → i < length t.nodes → below (node_at t.nodes i).node (occurs i depth t.nodes) ≡ 0
below_itself t depth i tree inside =
    elim (leaf_or_split (node_at t.nodes i).node) [
      | inl leaf ↦ below_leaf (node_at t.nodes i).node (occurs i depth t.nodes) leaf
      | inr p ↦
          let s : IsSplit t i p.quantity p.cut p.left p.right = children t i tree inside p in
          omega (arith, below_split (node_at t.nodes i).node (occurs i depth t.nodes) p, occurs-before t i depth p.left tree s.left_in_tree s.left_later, occurs-before t i depth p.right tree s.right_in_tree s.right_later)
    ]

occurs-itself : (t : Tree) (depth i : ℕ) → IsTree t → i < length t.nodes → occurs i depth t.nodes i ≡ 1
occurs-itself t zero i tree inside = one_same i i refl
occurs-itself t (suc depth) i tree inside = omega (arith, one_same i i refl, below_itself t depth i tree inside)

-- ---- a node stands in a tree as often as its parent does, and once more where it is the tree's own node
-- the two children are apart
apart : (t : Tree) (i j : ℕ) (c : ℤ) (l r : ℕ) → IsSplit t i j c l r → l ≢ r
apart t i j c l r s same =
    let both : Some (link_left i j c) ≡ Some (link_right i j c) = sym s.left_link ∙ ap (λ n. (node_at t.nodes n).link) same ∙ s.right_link in
    let ends : High ≡ Low = ap (λ (k : Option Link). end_or_low k) both in
    cc
  where
    end_or_low : Option Link → End
    end_or_low None = Low
    end_or_low (Some k) = k.end

just_one : (a b k : ℕ) → a ≢ b → ((k == a) || (k == b)) ≡ true → one a k + one b k ≡ 1
just_one a b k h is = grind (arith, nat_tests)

-- of the two children of a split node, just one is node k where the split is its parent, and none is elsewhere
child_count : (t : Tree) (i j : ℕ) (c : ℤ) (l r k : ℕ) (up : Link) → IsTree t → IsSplit t i j c l r → (node_at t.nodes i).node ≡ Split j c l r → (node_at t.nodes k).link ≡ Some up → IsLinked t k up → one l k + one r k ≡ one i up.parent
child_count t i j c l r k up tree s is link linked =
    elim (same_or_other i up.parent) [
      | inl e ↦
          let p : i ≡ up.parent = e in
          let child : is_child (Split j c l r) k ≡ true = ap (λ m. is_child m k) (sym is) ∙ ap (λ n. is_child (node_at t.nodes n).node k) p ∙ linked.child in
          omega (arith, just_one l r k (apart t i j c l r s) child, one_same i up.parent p)
      | inr e ↦
          let p : i ≢ up.parent = e in
          omega (arith, one_other i up.parent p, one_other l k (λ h. p (parent_of (link_left i j c) up (sym s.left_link ∙ ap (λ n. (node_at t.nodes n).link) h ∙ link))), one_other r k (λ h. p (parent_of (link_right i j c) up (sym s.right_link ∙ ap (λ n. (node_at t.nodes n).link) h ∙ link))))
    ]
  where
    parent_of : (a b : Link) → Some a ≡ Some b → a.parent ≡ b.parent
    parent_of a b h = let same : a ≡ b = cc in ap (λ (x : Link). x.parent) same

-- a node that has a child is no leaf
pub not_leaf : (t : Tree) (k i : ℕ) (up : Link) → IsLinked t k up → (node_at t.nodes i).node ≡ Leaf → i ≢ up.parent
not_leaf t k i up linked leaf same =
    let no : is_child Leaf k ≡ true = ap (λ m. is_child m k) (sym leaf) ∙ ap (λ n. is_child (node_at t.nodes n).node k) same ∙ linked.child in
    cc

at_itself : (t : Tree) (k depth i : ℕ) (up : Link) → IsTree t → k < length t.nodes → IsLinked t k up → i < length t.nodes → i ≡ k → occurs k depth t.nodes i ≡ occurs up.parent depth t.nodes i + one i k
at_itself t k depth i up tree in_tree linked inside same =
    omega (arith, one_same i k same, ap (λ n. occurs k depth t.nodes n) same, occurs-itself t depth k tree in_tree, occurs-before t up.parent depth i tree inside (omega (arith, linked.later)))

occurs-up : (t : Tree) (k depth i : ℕ) (up : Link) → IsTree t → k < length t.nodes → (node_at t.nodes k).link ≡ Some up → IsLinked t k up → i < length t.nodes → length t.nodes ≤ i + 1 + depth → occurs k depth t.nodes i ≡ occurs up.parent depth t.nodes i + one i k
occurs-up t k zero i up tree in_tree link linked inside deep =
    elim (same_or_other i k) [
      | inl e ↦ at_itself t k zero i up tree in_tree linked inside e
      | inr e ↦ omega (arith, one_other i k e, one_other i up.parent (omega (arith, linked.later)))
    ]
occurs-up t k (suc depth) i up tree in_tree link linked inside deep =
    elim (same_or_other i k) [
      | inl e ↦ at_itself t k (suc depth) i up tree in_tree linked inside e
      | inr e ↦ elim (leaf_or_split (node_at t.nodes i).node) [
        | inl leaf ↦
            omega (arith, one_other i k e, one_other i up.parent (not_leaf t k i up linked leaf), below_leaf (node_at t.nodes i).node (occurs k depth t.nodes) leaf, below_leaf (node_at t.nodes i).node (occurs up.parent depth t.nodes) leaf)
        | inr p ↦
            let s : IsSplit t i p.quantity p.cut p.left p.right = children t i tree inside p in
            omega (
              arith,
              one_other i k e,
              below_split (node_at t.nodes i).node (occurs k depth t.nodes) p,
              below_split (node_at t.nodes i).node (occurs up.parent depth t.nodes) p,
              child_count t i p.quantity p.cut p.left p.right k up tree s p.is link linked,
              occurs-up t k depth p.left up tree in_tree link linked s.left_in_tree (omega (arith, s.left_later)),
              occurs-up t k depth p.right up tree in_tree link linked s.right_in_tree (omega (arith, s.right_later)),
            )
      ]
    ]

-- each node but the first has a link
some_link : (r : Option Link) → is_some r ≡ true → (up : Link) × (r ≡ Some up)
some_link None h = cc
some_link (Some up) h = (up, refl)

pub link_there : (t : Tree) (i : ℕ) → IsTree t → 0 < i → i < length t.nodes → (up : Link) × ((node_at t.nodes i).link ≡ Some up)
link_there t i tree from inside = some_link (node_at t.nodes i).link (tree.each_linked i from inside)

-- each node stands in the whole tree just once
pub occurs-once : (t : Tree) (k depth : ℕ) → IsTree t → k < length t.nodes → length t.nodes ≤ 1 + depth → occurs k depth t.nodes 0 ≡ 1
occurs-once t k depth tree in_tree deep = once t k (suc k) depth tree in_tree deep (omega arith)
  where
    once : (t : Tree) (k bound depth : ℕ) → IsTree t → k < length t.nodes → length t.nodes ≤ 1 + depth → k < bound → occurs k depth t.nodes 0 ≡ 1
    once t k zero depth tree in_tree deep small = absurd (omega arith)
    once t zero (suc bound) depth tree in_tree deep small = occurs-itself t depth 0 tree in_tree
    once t (suc k) (suc bound) depth tree in_tree deep small =
        let up : (u : Link) × ((node_at t.nodes (suc k)).link ≡ Some u) = link_there t (suc k) tree (omega arith) in_tree in
        let linked : IsLinked t (suc k) up.0 = tree.linked (suc k) up.0 in_tree up.1 in
        omega (arith, occurs-up t (suc k) depth 0 up.0 tree in_tree up.1 linked tree.has_root (omega arith), one_other 0 (suc k) (omega arith), once t (up.0).parent bound depth tree (omega (arith, linked.later)) deep (omega (arith, linked.later)))

-- at the greatest depth there is no split
pub last_is_leaf : (t : Tree) (i : ℕ) → IsTree t → i < length t.nodes → length t.nodes ≤ i + 1 → (node_at t.nodes i).node ≡ Leaf
last_is_leaf t i tree inside deep =
    elim (leaf_or_split (node_at t.nodes i).node) [
      | inl leaf ↦ leaf
      | inr p ↦
          let s : IsSplit t i p.quantity p.cut p.left p.right = children t i tree inside p in
          absurd (omega (arith, s.left_later, s.left_in_tree))
    ]

-- a greater depth changes nothing
pub occurs-deep : (t : Tree) (k d e i : ℕ) → IsTree t → i < length t.nodes → length t.nodes ≤ i + 1 + d → length t.nodes ≤ i + 1 + e → occurs k d t.nodes i ≡ occurs k e t.nodes i
occurs-deep t k zero zero i tree inside deep deeper = refl
occurs-deep t k zero (suc e) i tree inside deep deeper =
    omega (arith, below_leaf (node_at t.nodes i).node (occurs k e t.nodes) (last_is_leaf t i tree inside (omega arith)))
occurs-deep t k (suc d) zero i tree inside deep deeper =
    omega (arith, below_leaf (node_at t.nodes i).node (occurs k d t.nodes) (last_is_leaf t i tree inside (omega arith)))
occurs-deep t k (suc d) (suc e) i tree inside deep deeper =
    elim (leaf_or_split (node_at t.nodes i).node) [
      | inl leaf ↦
          omega (arith, below_leaf (node_at t.nodes i).node (occurs k d t.nodes) leaf, below_leaf (node_at t.nodes i).node (occurs k e t.nodes) leaf)
      | inr p ↦
          let s : IsSplit t i p.quantity p.cut p.left p.right = children t i tree inside p in
          omega (
            arith,
            below_split (node_at t.nodes i).node (occurs k d t.nodes) p,
            below_split (node_at t.nodes i).node (occurs k e t.nodes) p,
            occurs-deep t k d e p.left tree s.left_in_tree (omega (arith, s.left_later)) (omega (arith, s.left_later)),
            occurs-deep t k d e p.right tree s.right_in_tree (omega (arith, s.right_later)) (omega (arith, s.right_later)),
          )
    ]
