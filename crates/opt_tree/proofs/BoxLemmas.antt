-- The boxes of a tree's nodes are ordered and lie in the root's, and a split's children have its halves.
use Rattle.std.proofs.Common.{◌≡◌, ◌⊎◌, inl, inr, ℕ, zero, suc, ◌<◌, length, set, Option, Some, None, ℤ, ◌≤ℤ◌, refl, subst, ap, sym, arith}
use Rattle.std.proofs.lemmas.Int.{ints}
use Rattle.std.proofs.Math.ListN.{length-set}
use Rattle.opt_sums.specs.Sums.{at}
use Rattle.opt_sums.proofs.EntryLemmas.{same_or_other}
use Rattle.opt_system.specs.Ranges.{Range, IsOrdered, LiesIn}
use Rattle.opt_system.specs.Cuts.{left_half, right_half}
use Rattle.opt_system.proofs.CutLemmas.{LiesIn-refl, LiesIn-trans, at-set_same, at-set_other}
use Rattle.opt_tree.specs.declared.node.End.{End}
use Rattle.opt_tree.specs.declared.node.End.TheVariants.{Low, High}
use Rattle.opt_tree.specs.declared.node.Link.{Link}
use Rattle.opt_tree.specs.Nodes.{Tree, IsTree, IsInward, IsLinked, IsSplit, node_at, changed, with_end, box_of}
use Rattle.opt_tree.proofs.NodeLemmas.{box_of-child, box_of-root}

-- ---- a box with one end changed to a value in it
abbrev IsEndIn : Range → ℕ → ℤ → Type 0
IsEndIn box j v = (j < length box.low) × (at box.low j ≤ℤ v) × (v ≤ℤ at box.high j)

ordered_end : (e : End) (box : Range) (j : ℕ) (v : ℤ) → IsOrdered box → IsEndIn box j v → IsOrdered (with_end e box j v)
ordered_end High box j v ordered inside = record {
  same_length = omega (arith, ordered.same_length, length-set box.high j v);
  from_zero = ordered.from_zero;
  rising = λ k below. elim (same_or_other k j) [
    | inl e ↦
        let p : k ≡ j = e in
        omega (arith, ints, ap (at box.low) p, ap (at (set box.high j v)) p, at-set_same box.high j v (omega (arith, ordered.same_length, inside.0)), inside.1)
    | inr e ↦ omega (arith, ints, at-set_other box.high j k v e, ordered.rising k below)
  ];
}
ordered_end Low box j v ordered inside = record {
  same_length = omega (arith, ordered.same_length, length-set box.low j v);
  from_zero = λ k below. elim (same_or_other k j) [
    | inl e ↦
        let p : k ≡ j = e in
        omega (arith, ints, ap (at (set box.low j v)) p, at-set_same box.low j v inside.0, inside.1, ordered.from_zero j inside.0)
    | inr e ↦ omega (arith, ints, at-set_other box.low j k v e, ordered.from_zero k (omega (arith, length-set box.low j v)))
  ];
  rising = λ k below. elim (same_or_other k j) [
    | inl e ↦
        let p : k ≡ j = e in
        omega (arith, ints, ap (at box.high) p, ap (at (set box.low j v)) p, at-set_same box.low j v inside.0, inside.2)
    | inr e ↦ omega (arith, ints, at-set_other box.low j k v e, ordered.rising k (omega (arith, length-set box.low j v)))
  ];
}

lies_end : (e : End) (box : Range) (j : ℕ) (v : ℤ) → IsOrdered box → IsEndIn box j v → LiesIn box (with_end e box j v)
lies_end High box j v ordered inside = record {
  same_length = refl;
  above = λ k below. omega (arith, ints);
  below = λ k below. elim (same_or_other k j) [
    | inl e ↦
        let p : k ≡ j = e in
        omega (arith, ints, ap (at box.high) p, ap (at (set box.high j v)) p, at-set_same box.high j v (omega (arith, ordered.same_length, inside.0)), inside.2)
    | inr e ↦ omega (arith, ints, at-set_other box.high j k v e)
  ];
}
lies_end Low box j v ordered inside = record {
  same_length = length-set box.low j v;
  above = λ k below. elim (same_or_other k j) [
    | inl e ↦
        let p : k ≡ j = e in
        omega (arith, ints, ap (at box.low) p, ap (at (set box.low j v)) p, at-set_same box.low j v inside.0, inside.1)
    | inr e ↦ omega (arith, ints, at-set_other box.low j k v e)
  ];
  below = λ k below. omega (arith, ints);
}

pub IsOrdered-changed : (box : Range) (k : Link) → IsOrdered box → IsInward box k → IsOrdered (changed box k)
IsOrdered-changed box k ordered inward = ordered_end k.end box k.quantity k.value ordered (inward.quantity, inward.from_low, inward.to_high)

pub LiesIn-changed : (box : Range) (k : Link) → IsOrdered box → IsInward box k → LiesIn box (changed box k)
LiesIn-changed box k ordered inward = lies_end k.end box k.quantity k.value ordered (inward.quantity, inward.from_low, inward.to_high)

-- ---- the boxes of nodes
pub record IsBox (t : Tree) (i : ℕ) : Type 0 where
  pub ordered : IsOrdered (box_of t i)
  pub within : LiesIn t.root (box_of t i)

-- a node is the root, or has a link
pub root_or_child : (t : Tree) (i : ℕ) → IsTree t → i < length t.nodes → ((node_at t.nodes i).link ≡ None) ⊎ ((k : Link) × ((node_at t.nodes i).link ≡ Some k))
root_or_child t i tree below = either (node_at t.nodes i).link
  where
    either : (r : Option Link) → (r ≡ None) ⊎ ((k : Link) × (r ≡ Some k))
    either None = inl refl
    either (Some k) = inr (k, refl)

box_root : (t : Tree) (i : ℕ) → IsTree t → i < length t.nodes → (node_at t.nodes i).link ≡ None → IsBox t i
box_root t i tree below none =
    let is : box_of t i ≡ t.root = box_of-root t i below none in
    record {
      ordered = subst (λ (b : Range). IsOrdered b) (sym is) tree.ordered;
      within = subst (λ (b : Range). LiesIn t.root b) (sym is) (LiesIn-refl t.root);
    }

box_child : (t : Tree) (i : ℕ) (k : Link) → i < length t.nodes → (node_at t.nodes i).link ≡ Some k → IsLinked t i k → IsBox t k.parent → IsBox t i
box_child t i k below link linked parent =
    let is : box_of t i ≡ changed (box_of t k.parent) k = box_of-child t i k below link linked.later in
    record {
      ordered = subst (λ (b : Range). IsOrdered b) (sym is) (IsOrdered-changed (box_of t k.parent) k parent.ordered linked.inward);
      within = subst (λ (b : Range). LiesIn t.root b) (sym is) (LiesIn-trans t.root (box_of t k.parent) (changed (box_of t k.parent) k) parent.within (LiesIn-changed (box_of t k.parent) k parent.ordered linked.inward));
    }

boxes_below : (t : Tree) (n : ℕ) → IsTree t → (i : ℕ) → i < n → i < length t.nodes → IsBox t i
boxes_below t zero tree i h below = absurd (omega arith)
boxes_below t (suc n) tree i h below =
    elim (root_or_child t i tree below) [
      | inl none ↦ box_root t i tree below none
      | inr some ↦
          let linked : IsLinked t i some.0 = tree.linked i some.0 below some.1 in
          box_child t i some.0 below some.1 linked (boxes_below t n tree (some.0).parent (omega (arith, linked.later)) (omega (arith, linked.later)))
    ]

-- the box of each node is ordered and lies in the root's
pub box_of-IsBox : (t : Tree) (i : ℕ) → IsTree t → i < length t.nodes → IsBox t i
box_of-IsBox t i tree below = boxes_below t (suc i) tree i (omega arith) below

-- the children of a split have its halves
pub box_of-left : (t : Tree) (i j : ℕ) (c : ℤ) (l r : ℕ) → IsSplit t i j c l r → box_of t l ≡ left_half (box_of t i) j c
box_of-left t i j c l r is = box_of-child t l _ is.left_in_tree is.left_link is.left_later

pub box_of-right : (t : Tree) (i j : ℕ) (c : ℤ) (l r : ℕ) → IsSplit t i j c l r → box_of t r ≡ right_half (box_of t i) j c
box_of-right t i j c l r is = box_of-child t r _ is.right_in_tree is.right_link is.right_later
