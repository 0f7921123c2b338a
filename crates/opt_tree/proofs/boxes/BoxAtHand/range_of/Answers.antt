use Rattle.std.proofs.Common.{◌∙◌, ap, sym, subst}
use Rattle.opt_system.specs.Ranges.{Range}
use Rattle.opt_tree.specs.Nodes.{tree_from, IsInward, changed}
use Rattle.opt_tree.proofs.HandLemmas.{gives_child}
use Rattle.opt_tree.proofs.boxes.BoxAtHand.range_of.Goals as goal

pub change-requires-clause-from_zero : goal.change-requires-clause-from_zero
change-requires-clause-from_zero c =
    (gives_child (tree_from c.args.root.now c.args.nodes.now) c.args.self.now c.args.i c.in-Some.link c.requires.tree c.requires.at_hand c.requires.node c.in-Some.ensures.link c.in-Some.ensures.child).from_zero

pub change-requires-clause-inward : goal.change-requires-clause-inward
change-requires-clause-inward c =
    subst (λ (b : Range). IsInward b c.in-Some.link) (sym c.in_ok-range.ensures.copy)
    (gives_child (tree_from c.args.root.now c.args.nodes.now) c.args.self.now c.args.i c.in-Some.link c.requires.tree c.requires.at_hand c.requires.node c.in-Some.ensures.link c.in-Some.ensures.child).inward

pub returns : goal.returns
returns c =
    c.change.ensures
    ∙ ap (λ (b : Range). changed b c.in-Some.link) c.in_ok-range.ensures.copy
    ∙ (gives_child (tree_from c.args.root.now c.args.nodes.now) c.args.self.now c.args.i c.in-Some.link c.requires.tree c.requires.at_hand c.requires.node c.in-Some.ensures.link c.in-Some.ensures.child).gives
