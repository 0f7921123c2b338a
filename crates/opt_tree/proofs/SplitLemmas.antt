-- What a split of a leaf leaves as it is, and that the tree stays a tree.
use Rattle.std.proofs.Common.{◌≡◌, ◌≢◌, inl, inr, ℕ, ◌+◌, ◌-◌, ◌<◌, List, [], ◌∷◌, ◌++◌, length, get_or, set, Option, ℤ, sum_by, refl, ap, sym, ◌∙◌, arith}
use Rattle.std.proofs.lemmas.List.{length-map, length-append, length-set, map-append, map-set, get_or_append_left, get_or-append_right, set-append_left, get_or-set_same, get_or-set_other}
use Rattle.std.proofs.lemmas.List.Sums.{sum_by-set, sum_by-append}
use Rattle.std.proofs.Math.Seq.{map-set_same}
use Rattle.opt_sums.proofs.EntryLemmas.{same_or_other}
use Rattle.opt_bound.specs.Bound.{trivial_multipliers}
use Rattle.opt_tree.specs.declared.node.Node.TheVariants.{Leaf, Split}
use Rattle.opt_tree.specs.declared.node.Link.{Link}
use Rattle.opt_tree.specs.declared.node.TreeNode.{TreeNode}
use Rattle.opt_tree.specs.Nodes.{Tree, IsLeaf, no_node, node_at, boxes_from, boxes, links, kinds, leaf_weight, leaf_nodes, box_of, split_at, split_node, child_of, link_left, link_right}
use Rattle.opt_tree.proofs.NodeLemmas.{boxes_from-append, get_or-boxes_from, length-boxes_from}
use Rattle.opt_tree.proofs.SameShape.{kind_of}

-- ---- the nodes after a split
pub length-split_at : (t : Tree) (i j : ℕ) (c : ℤ) → length (split_at t i j c).nodes ≡ length t.nodes + 2
length-split_at t i j c =
    omega (arith, length-append (set t.nodes i (split_node t.nodes i (link_left i j c))) (child_of (node_at t.nodes i) (link_left i j c) ∷ child_of (node_at t.nodes i) (link_right i j c) ∷ []), length-set t.nodes i (split_node t.nodes i (link_left i j c)))

pub node_at-split_other : (t : Tree) (i j : ℕ) (c : ℤ) (k : ℕ) → k < length t.nodes → k ≢ i → node_at (split_at t i j c).nodes k ≡ node_at t.nodes k
node_at-split_other t i j c k below other =
    get_or_append_left (set t.nodes i (split_node t.nodes i (link_left i j c))) (child_of (node_at t.nodes i) (link_left i j c) ∷ child_of (node_at t.nodes i) (link_right i j c) ∷ []) no_node k (omega (arith, length-set t.nodes i (split_node t.nodes i (link_left i j c))))
    ∙ get_or-set_other t.nodes i k (split_node t.nodes i (link_left i j c)) no_node other

pub node_at-split_same : (t : Tree) (i j : ℕ) (c : ℤ) → i < length t.nodes → node_at (split_at t i j c).nodes i ≡ split_node t.nodes i (link_left i j c)
node_at-split_same t i j c below =
    get_or_append_left (set t.nodes i (split_node t.nodes i (link_left i j c))) (child_of (node_at t.nodes i) (link_left i j c) ∷ child_of (node_at t.nodes i) (link_right i j c) ∷ []) no_node i (omega (arith, length-set t.nodes i (split_node t.nodes i (link_left i j c))))
    ∙ get_or-set_same t.nodes i (split_node t.nodes i (link_left i j c)) no_node below

pub node_at-split_left : (t : Tree) (i j : ℕ) (c : ℤ) → node_at (split_at t i j c).nodes (length t.nodes) ≡ child_of (node_at t.nodes i) (link_left i j c)
node_at-split_left t i j c =
    let e : length t.nodes - length t.nodes ≡ 0 = omega arith in
    get_or-append_right (set t.nodes i (split_node t.nodes i (link_left i j c))) (child_of (node_at t.nodes i) (link_left i j c) ∷ child_of (node_at t.nodes i) (link_right i j c) ∷ []) (length t.nodes) (length t.nodes) no_node (length-set t.nodes i (split_node t.nodes i (link_left i j c))) (omega arith)
    ∙ ap (λ n. get_or (child_of (node_at t.nodes i) (link_left i j c) ∷ child_of (node_at t.nodes i) (link_right i j c) ∷ []) n no_node) e

pub node_at-split_right : (t : Tree) (i j : ℕ) (c : ℤ) → node_at (split_at t i j c).nodes (length t.nodes + 1) ≡ child_of (node_at t.nodes i) (link_right i j c)
node_at-split_right t i j c =
    let e : (length t.nodes + 1) - length t.nodes ≡ 1 = omega arith in
    get_or-append_right (set t.nodes i (split_node t.nodes i (link_left i j c))) (child_of (node_at t.nodes i) (link_left i j c) ∷ child_of (node_at t.nodes i) (link_right i j c) ∷ []) (length t.nodes) (length t.nodes + 1) no_node (length-set t.nodes i (split_node t.nodes i (link_left i j c))) (omega arith)
    ∙ ap (λ n. get_or (child_of (node_at t.nodes i) (link_left i j c) ∷ child_of (node_at t.nodes i) (link_right i j c) ∷ []) n no_node) e

-- no link changes
pub link-split : (t : Tree) (i j : ℕ) (c : ℤ) (k : ℕ) → k < length t.nodes → (node_at (split_at t i j c).nodes k).link ≡ (node_at t.nodes k).link
link-split t i j c k below =
    elim (same_or_other k i) [
      | inl e ↦
          let p : k ≡ i = e in
          ap (λ n. (node_at (split_at t i j c).nodes n).link) p ∙ ap (λ (n : TreeNode). n.link) (node_at-split_same t i j c (omega arith)) ∙ ap (λ n. (node_at t.nodes n).link) (sym p)
      | inr e ↦
          let p : k ≢ i = e in
          ap (λ (n : TreeNode). n.link) (node_at-split_other t i j c k below p)
    ]

links-split : (t : Tree) (i j : ℕ) (c : ℤ) → links (split_at t i j c).nodes ≡ links t.nodes ++ (child_of (node_at t.nodes i) (link_left i j c)).link ∷ (child_of (node_at t.nodes i) (link_right i j c)).link ∷ []
links-split t i j c =
    map-append (λ (n : TreeNode). n.link) (set t.nodes i (split_node t.nodes i (link_left i j c))) (child_of (node_at t.nodes i) (link_left i j c) ∷ child_of (node_at t.nodes i) (link_right i j c) ∷ [])
    ∙ ap (λ ls. ls ++ (child_of (node_at t.nodes i) (link_left i j c)).link ∷ (child_of (node_at t.nodes i) (link_right i j c)).link ∷ []) (map-set_same (λ (n : TreeNode). n.link) t.nodes i (split_node t.nodes i (link_left i j c)) no_node refl)

-- no box changes
pub box_of-split : (t : Tree) (i j : ℕ) (c : ℤ) (k : ℕ) → k < length t.nodes → box_of (split_at t i j c) k ≡ box_of t k
box_of-split t i j c k below =
    let more : List (Option Link) = (child_of (node_at t.nodes i) (link_left i j c)).link ∷ (child_of (node_at t.nodes i) (link_right i j c)).link ∷ [] in
    ap (λ ls. get_or (boxes_from t.root [] ls) k t.root) (links-split t i j c)
    ∙ ap (λ bs. get_or bs k t.root) (boxes_from-append t.root [] (links t.nodes) more)
    ∙ get_or-boxes_from t.root (boxes t) more k t.root (omega (arith, length-boxes_from t.root [] (links t.nodes), length-map t.nodes (λ (n : TreeNode). n.link)))

-- one leaf fewer, and two more
pub leaf_nodes-split : (t : Tree) (i j : ℕ) (c : ℤ) → IsLeaf t i → leaf_nodes (split_at t i j c).nodes ≡ leaf_nodes t.nodes + 1
leaf_nodes-split t i j c is_leaf =
    let n = length t.nodes in
    let changed : kinds (split_at t i j c).nodes ≡ set (kinds t.nodes) i (Split j c n (n + 1)) ++ Leaf ∷ Leaf ∷ [] =
    map-append (λ (m : TreeNode). m.node) (set t.nodes i (split_node t.nodes i (link_left i j c))) (child_of (node_at t.nodes i) (link_left i j c) ∷ child_of (node_at t.nodes i) (link_right i j c) ∷ [])
    ∙ ap (λ ks. ks ++ Leaf ∷ Leaf ∷ []) (map-set (λ (m : TreeNode). m.node) t.nodes i (split_node t.nodes i (link_left i j c)))
    in
    let was : get_or (kinds t.nodes) i Leaf ≡ Leaf = sym (kind_of t.nodes i) ∙ is_leaf.leaf in
    omega (
      arith,
      ap (sum_by leaf_weight) changed,
      sum_by-append leaf_weight (set (kinds t.nodes) i (Split j c n (n + 1))) (Leaf ∷ Leaf ∷ []),
      sum_by-set leaf_weight (kinds t.nodes) i (Split j c n (n + 1)) Leaf (omega (arith, is_leaf.in_tree, length-map t.nodes (λ (m : TreeNode). m.node))),
      ap leaf_weight was,
    )

-- the split is marked after its children were added
pub parted_marked : (nodes more : List TreeNode) (i : ℕ) (left : Link) → i < length nodes → set (nodes ++ more) i (record { node = Split left.quantity left.value (length nodes) (length nodes + 1); mult = trivial_multipliers; link = (node_at (nodes ++ more) i).link }) ≡ set nodes i (split_node nodes i left) ++ more
parted_marked nodes more i left h =
    ap (λ k. set (nodes ++ more) i (record { node = Split left.quantity left.value (length nodes) (length nodes + 1); mult = trivial_multipliers; link = k })) (ap (λ (n : TreeNode). n.link) (get_or_append_left nodes more no_node i h))
    ∙ set-append_left nodes more i (split_node nodes i left) h
