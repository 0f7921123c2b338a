-- The box at hand, that of the node that was split last, and the boxes of its children.
use Rattle.std.proofs.Common.{◌≡◌, ◌<◌, length, ℕ, ℤ, Some, pos, ◌≤ℤ◌, arith, ap, sym, subst, ◌∙◌}
use Rattle.std.proofs.lemmas.Int.{ints}
use Rattle.opt_system.specs.Ranges.{Range}
use Rattle.opt_bound.specs.Multipliers.{Multipliers}
use Rattle.opt_tree.specs.declared.boxes.BoxAtHand.{BoxAtHand}
use Rattle.opt_tree.specs.declared.node.Link.{Link}
use Rattle.opt_tree.specs.Nodes.{Tree, IsTree, IsLinked, IsInward, IsAtHand, node_at, box_of, changed, split_at, with_mult}
use Rattle.opt_tree.proofs.BoxLemmas.{IsBox, box_of-IsBox}
use Rattle.opt_tree.proofs.NodeLemmas.{box_of-child}
use Rattle.opt_tree.proofs.SameShape.{SameShape, same_length, same_box, SameShape-with_mult}
use Rattle.opt_tree.proofs.SplitLemmas.{length-split_at, box_of-split}

-- the link fits this box, and gives that of node i
pub record GivesBox (t : Tree) (i : ℕ) (box : Range) (k : Link) : Type 0 where
  pub from_zero : pos 0 ≤ℤ k.value
  pub inward : IsInward box k
  pub gives : changed box k ≡ box_of t i

-- the link of a child gives its box from the box at hand
pub gives_child : (t : Tree) (hand : BoxAtHand) (i : ℕ) (k : Link) → IsTree t → IsAtHand t hand → i < length t.nodes → (node_at t.nodes i).link ≡ Some k → k.parent ≡ hand.node → GivesBox t i hand.range k
gives_child t hand i k tree here below is parent =
    let linked : IsLinked t i k = tree.linked i k below is in
    let box : IsBox t k.parent = box_of-IsBox t k.parent tree (omega (arith, linked.later, below)) in
    let same : hand.range ≡ box_of t k.parent = here.own_box ∙ ap (box_of t) (sym parent) in
    record {
      from_zero = omega (arith, ints, box.ordered.from_zero k.quantity linked.inward.quantity, linked.inward.from_low);
      inward = subst (λ (b : Range). IsInward b k) (sym same) linked.inward;
      gives = ap (λ (b : Range). changed b k) same ∙ sym (box_of-child t i k below is linked.later);
    }

-- a split keeps the boxes of the nodes that there were
pub IsAtHand-split_at : (t : Tree) (hand : BoxAtHand) (i j : ℕ) (c : ℤ) → IsAtHand t hand → IsAtHand (split_at t i j c) hand
IsAtHand-split_at t hand i j c here = record {
  in_tree = omega (arith, here.in_tree, length-split_at t i j c);
  own_box = here.own_box ∙ sym (box_of-split t i j c hand.node here.in_tree);
}

-- so do other multipliers
pub IsAtHand-with_mult : (t : Tree) (hand : BoxAtHand) (i : ℕ) (m : Multipliers) → IsAtHand t hand → IsAtHand (with_mult t i m) hand
IsAtHand-with_mult t hand i m here =
    let shape : SameShape t (with_mult t i m) = SameShape-with_mult t i m in
    record {
      in_tree = omega (arith, here.in_tree, same_length t (with_mult t i m) shape);
      own_box = here.own_box ∙ sym (same_box t (with_mult t i m) shape hand.node);
    }
