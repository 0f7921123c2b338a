use Rattle.std.proofs.Common.{◌≡◌, ◌<◌, length, ℕ, pos, ◌+ℤ◌, ◌≤ℤ◌, ◌<ℤ◌, FitsSigned, arith, rules, refl, ap}
use Rattle.std.proofs.lemmas.Int.{ints, to_z-of_z}
use mir.Syntax.{w64}
use Rattle.opt_tree.specs.Nodes.{Tree, IsTree, tree_from, box_of}
use Rattle.opt_tree.proofs.BoxLemmas.{box_of-IsBox}
use Rattle.opt_tree.proofs.boxes.BoxAtHand.halves.Goals as goal

-- a node's box has as many quantities as the root's
as_many : (t : Tree) (i : ℕ) → IsTree t → i < length t.nodes → length (box_of t i).low ≡ length t.root.low
as_many t i tree below = (box_of-IsBox t i tree below).within.same_length

pub returns-then-quantity-low : goal.returns-then-quantity-low
returns-then-quantity-low c = λ cut.
    let many : length (box_of (tree_from c.args.root.now c.args.nodes.now) c.args.i).low ≡ length c.args.root.now.low = as_many (tree_from c.args.root.now c.args.nodes.now) c.args.i c.requires.tree c.requires.node in
    absurd (omega (arith, many, cut.quantity, ap length c.low.ensures.value))

pub returns : goal.returns
returns c =
    let many : length (box_of (tree_from c.args.root.now c.args.nodes.now) c.args.i).low ≡ length c.args.root.now.low = as_many (tree_from c.args.root.now c.args.nodes.now) c.args.i c.requires.tree c.requires.node in
    let low : FitsSigned w64 c.end_at-low.result = record { sfits = c.end_at-low.type_inv } in
    let high : FitsSigned w64 c.end_at-high.result = record { sfits = c.end_at-high.type_inv } in
    let at_fits : FitsSigned w64 c.args.at = c.ranges.at in
    let from : c.end_at-low.result ≤ℤ c.args.at = omega (arith, ints, (c.leaves_both.ensures.0 c.if-not-leaves_both.false).0) in
    let to : c.args.at <ℤ c.end_at-high.result = omega (arith, ints, (c.leaves_both.ensures.0 c.if-not-leaves_both.false).1) in
    let next : FitsSigned w64 (c.args.at +ℤ pos 1) = search rules in (
      record {
        quantity = omega (arith, many, ap length c.low.ensures.value, c.if-quantity-low.false);
        from_low = omega (arith, ints, c.end_at-low.ensures);
        below_high = omega (arith, ints, c.end_at-high.ensures);
      },
      rw (to_z-of_z w64 c.args.at at_fits, to_z-of_z w64 (c.args.at +ℤ pos 1) next) refl,
    )
