use Rattle.std.proofs.Common.{◌≡◌, ◌<◌, length, ℕ, Some, None, FitsSigned, arith, rules, refl, sym, ap, ◌∙◌}
use Rattle.std.proofs.lemmas.Int.{to_z-of_z}
use mir.Syntax.{w64}
use Rattle.opt_sums.specs.Sums.{at}
use Rattle.opt_system.specs.Ranges.{Range}
use Rattle.opt_tree.specs.declared.boxes.BoxAtHand.{BoxAtHand}
use Rattle.opt_tree.specs.declared.node.End.{End}
use Rattle.opt_tree.specs.declared.node.Link.{Link}
use Rattle.opt_tree.specs.Nodes.{Tree, IsTree, IsLinked, IsAtHand, tree_from, node_at, box_of}
use Rattle.opt_tree.specs.Narrowed.{side}
use Rattle.opt_tree.proofs.BoxLemmas.{IsBox, box_of-IsBox}
use Rattle.opt_tree.proofs.NodeLemmas.{box_of-child, box_of-root}
use Rattle.opt_tree.proofs.NarrowLemmas.{end_kept, end_given}
use Rattle.opt_tree.proofs.boxes.BoxAtHand.end_at.Invariants.{IsSameEnd}
use Rattle.opt_tree.proofs.boxes.BoxAtHand.end_at.Goals as goal

same_up : (t : Tree) (e : End) (q node i : ℕ) (k : Link) → IsTree t → IsSameEnd t e q node i → (node_at t.nodes node).link ≡ Some k → (k.quantity ≡ q → k.end ≡ e → ⊥) → IsSameEnd t e q k.parent i
same_up t e q node i k tree here is other =
    let linked : IsLinked t node k = tree.linked node k here.in_tree is in
    let below : k.parent < length t.nodes = omega (arith, linked.later, here.in_tree) in
    let parent : IsBox t k.parent = box_of-IsBox t k.parent tree below in
    record {
      in_tree = below;
      same = sym (end_kept e (box_of t k.parent) k q parent.ordered linked.inward other) ∙ ap (λ (b : Range). at (side e b) q) (sym (box_of-child t node k here.in_tree is linked.later)) ∙ here.same;
    }

given : (t : Tree) (e : End) (q node i : ℕ) (k : Link) → IsTree t → IsSameEnd t e q node i → (node_at t.nodes node).link ≡ Some k → k.quantity ≡ q → k.end ≡ e → k.value ≡ at (side e (box_of t i)) q
given t e q node i k tree here is quantity this =
    let linked : IsLinked t node k = tree.linked node k here.in_tree is in
    let parent : IsBox t k.parent = box_of-IsBox t k.parent tree (omega (arith, linked.later, here.in_tree)) in
    sym (end_given e (box_of t k.parent) k q parent.ordered linked.inward quantity this) ∙ ap (λ (b : Range). at (side e b) q) (sym (box_of-child t node k here.in_tree is linked.later)) ∙ here.same

at_root : (t : Tree) (e : End) (q node i : ℕ) → IsSameEnd t e q node i → (node_at t.nodes node).link ≡ None → at (side e t.root) q ≡ at (side e (box_of t i)) q
at_root t e q node i here none = ap (λ (b : Range). at (side e b) q) (sym (box_of-root t node here.in_tree none)) ∙ here.same

pub loop-link-smaller : goal.loop-link-smaller
loop-link-smaller c =
    (c.requires.tree.linked c.loop-link.at c.in-Some.link c.loop-link.invariant.in_tree (sym c.in-Some.ensures)).later

pub loop-link-preserved : goal.loop-link-preserved
loop-link-preserved c =
    same_up (tree_from c.args.root.now c.args.nodes.now) c.args.end c.args.quantity c.loop-link.at c.args.i c.in-Some.link c.requires.tree c.loop-link.invariant (sym c.in-Some.ensures) (λ h k. absurd (cc (c.changes.ensures.1 (h, k), c.if-changes.false)))

pub returns-then-changes : goal.returns-then-changes
returns-then-changes c =
    let fits : FitsSigned w64 c.in-Some.link.value = search rules in
    let both : (c.in-Some.link.quantity ≡ c.args.quantity) × (c.in-Some.link.end ≡ c.args.end) = c.if-changes.ensures.0 refl in
    rw (to_z-of_z w64 c.in-Some.link.value fits)
    (given (tree_from c.args.root.now c.args.nodes.now) c.args.end c.args.quantity c.loop-link.at c.args.i c.in-Some.link c.requires.tree c.loop-link.invariant (sym c.in-Some.ensures) both.0 both.1)

at_hand : (t : Tree) (hand : BoxAtHand) (e : End) (q node i : ℕ) → IsAtHand t hand → IsSameEnd t e q node i → node ≡ hand.node → at (side e hand.range) q ≡ at (side e (box_of t i)) q
at_hand t hand e q node i here same this = ap (λ (b : Range). at (side e b) q) (here.own_box ∙ ap (box_of t) (sym this)) ∙ same.same

pub returns : goal.returns
returns c =
    let fits : FitsSigned w64 c.end_in-2.result = record { sfits = c.end_in-2.type_inv } in
    rw (to_z-of_z w64 c.end_in-2.result fits)
    (c.end_in-2.ensures ∙ at_root (tree_from c.args.root.now c.args.nodes.now) c.args.end c.args.quantity c.loop-link.at c.args.i c.loop-link.invariant (sym c.link_at.ensures ∙ c.in_default.is))

pub end_in-requires : goal.end_in-requires
end_in-requires c =
    let box : IsBox (tree_from c.args.root.now c.args.nodes.now) c.args.self.now.node = box_of-IsBox (tree_from c.args.root.now c.args.nodes.now) c.args.self.now.node c.requires.tree c.requires.at_hand.in_tree in
    omega (arith, c.requires.quantity, box.within.same_length, ap (λ (b : Range). length b.low) c.requires.at_hand.own_box)
