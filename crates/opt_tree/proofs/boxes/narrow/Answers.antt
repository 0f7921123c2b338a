use Rattle.std.proofs.Common.{◌≡◌, ◌<◌, length, ℕ, pos, ◌≤ℤ◌, None, Some, Option, arith, refl, subst, sym, ◌∙◌}
use Rattle.std.proofs.lemmas.Int.{ints}
use Rattle.opt_system.specs.Ranges.{Range}
use Rattle.opt_tree.specs.declared.node.Link.{Link}
use Rattle.opt_tree.specs.Nodes.{Tree, IsTree, IsLinked, tree_from, changed, node_at, box_of}
use Rattle.opt_tree.specs.Narrowed.{IsOnWay, LeavesSome, narrowed}
use Rattle.opt_tree.proofs.BoxLemmas.{IsBox, box_of-IsBox}
use Rattle.opt_tree.proofs.NodeLemmas.{box_of-child, box_of-root}
use Rattle.opt_tree.proofs.NarrowLemmas.{on_way_first, on_way_up, on_way_last, leaves_some}
use Rattle.opt_tree.proofs.boxes.narrow.Invariants.{IsHere}
use Rattle.opt_tree.proofs.boxes.narrow.Goals as goal

here_first : (t : Tree) (i : ℕ) → IsTree t → i < length t.nodes → IsHere t i i t.root
here_first t i tree below =
    let box : IsBox t i = box_of-IsBox t i tree below in
    record { in_tree = below; way = on_way_first t.root (box_of t i) tree.ordered box.ordered box.within }

-- what the next link says fits the box at hand
record Fits (k : Link) (box : Range) : Type 0 where
  quantity : k.quantity < length box.low
  from_zero : pos 0 ≤ℤ k.value
  some : LeavesSome k.end box k.quantity k.value

fits : (t : Tree) (node i : ℕ) (k : Link) (box : Range) → IsTree t → i < length t.nodes → IsHere t node i box → (node_at t.nodes node).link ≡ Some k → Fits k box
fits t node i k box tree below here is =
    let linked : IsLinked t node k = tree.linked node k here.in_tree is in
    let parent : IsBox t k.parent = box_of-IsBox t k.parent tree (omega (arith, linked.later, here.in_tree)) in
    let whole : IsBox t i = box_of-IsBox t i tree below in
    let quantity : k.quantity < length (box_of t i).low = omega (arith, linked.inward.quantity, whole.within.same_length, parent.within.same_length) in
    record {
      quantity = omega (arith, here.way.lows);
      from_zero = omega (arith, ints, parent.ordered.from_zero k.quantity linked.inward.quantity, linked.inward.from_low);
      some = leaves_some t.root (box_of t k.parent) box (box_of t i) k parent.ordered whole.ordered linked.inward quantity
          (subst (λ (b : Range). IsOnWay t.root b box (box_of t i)) (box_of-child t node k here.in_tree is linked.later) here.way);
    }

here_up : (t : Tree) (node i : ℕ) (k : Link) (box next : Range) → IsTree t → IsHere t node i box → (node_at t.nodes node).link ≡ Some k → next ≡ narrowed box k → IsHere t k.parent i next
here_up t node i k box next tree here is at_hand =
    let linked : IsLinked t node k = tree.linked node k here.in_tree is in
    let below : k.parent < length t.nodes = omega (arith, linked.later, here.in_tree) in
    let parent : IsBox t k.parent = box_of-IsBox t k.parent tree below in
    let way : IsOnWay t.root (changed (box_of t k.parent) k) box (box_of t i) =
    subst (λ (b : Range). IsOnWay t.root b box (box_of t i)) (box_of-child t node k here.in_tree is linked.later) here.way
    in
    record {
      in_tree = below;
      way = subst (λ (b : Range). IsOnWay t.root (box_of t k.parent) b (box_of t i)) (sym at_hand) (on_way_up t.root (box_of t k.parent) box (box_of t i) k parent.ordered linked.inward way);
    }

here_last : (t : Tree) (node i : ℕ) (box : Range) → IsHere t node i box → (node_at t.nodes node).link ≡ None → box ≡ box_of t i
here_last t node i box here none =
    on_way_last t.root box (box_of t i) (subst (λ (b : Range). IsOnWay t.root b box (box_of t i)) (box_of-root t node here.in_tree none) here.way)

no_link : (r : Option Link) → ((k : Link) → r ≡ Some k → ⊥) → r ≡ None
no_link None other = refl
no_link (Some k) other = absurd (other k refl)

pub loop-link-init : goal.loop-link-init
loop-link-init c = here_first (tree_from c.args.range.now c.args.nodes.now) c.args.i c.requires.tree c.requires.node

pub tighten-requires-clause-quantity : goal.tighten-requires-clause-quantity
tighten-requires-clause-quantity c =
    (fits (tree_from c.args.range.now c.args.nodes.now) c.loop-link.at c.args.i c.in-Some.link c.loop-link.range c.requires.tree c.requires.node c.loop-link.invariant (sym c.in-Some.ensures)).quantity

pub tighten-requires-clause-from_zero : goal.tighten-requires-clause-from_zero
tighten-requires-clause-from_zero c =
    (fits (tree_from c.args.range.now c.args.nodes.now) c.loop-link.at c.args.i c.in-Some.link c.loop-link.range c.requires.tree c.requires.node c.loop-link.invariant (sym c.in-Some.ensures)).from_zero

pub tighten-requires-clause-leaves_some : goal.tighten-requires-clause-leaves_some
tighten-requires-clause-leaves_some c =
    (fits (tree_from c.args.range.now c.args.nodes.now) c.loop-link.at c.args.i c.in-Some.link c.loop-link.range c.requires.tree c.requires.node c.loop-link.invariant (sym c.in-Some.ensures)).some

pub loop-link-smaller : goal.loop-link-smaller
loop-link-smaller c =
    (c.requires.tree.linked c.loop-link.at c.in-Some.link c.loop-link.invariant.in_tree (sym c.in-Some.ensures)).later

pub loop-link-preserved : goal.loop-link-preserved
loop-link-preserved c =
    here_up (tree_from c.args.range.now c.args.nodes.now) c.loop-link.at c.args.i c.in-Some.link c.loop-link.range c.tighten.new.range c.requires.tree c.loop-link.invariant (sym c.in-Some.ensures) c.tighten.ensures

pub returns : goal.returns
returns c =
    here_last (tree_from c.args.range.now c.args.nodes.now) c.loop-link.at c.args.i c.loop-link.range c.loop-link.invariant (sym c.link_at.ensures ∙ c.in_default.is)
