use Rattle.std.proofs.Common.{◌∙◌}
use Rattle.opt_tree.specs.Nodes.{tree_from}
use Rattle.opt_tree.proofs.HandLemmas.{gives_child}
use Rattle.opt_tree.proofs.boxes.BoxAtHand.take.Goals as goal

pub change-requires-clause-from_zero : goal.change-requires-clause-from_zero
change-requires-clause-from_zero c =
    (gives_child (tree_from c.args.root.now c.args.nodes.now) c.args.self.now c.args.i c.in-Some.link c.requires.tree c.requires.at_hand c.requires.node c.in-Some.ensures.link c.in-Some.ensures.child).from_zero

pub change-requires-clause-inward : goal.change-requires-clause-inward
change-requires-clause-inward c =
    (gives_child (tree_from c.args.root.now c.args.nodes.now) c.args.self.now c.args.i c.in-Some.link c.requires.tree c.requires.at_hand c.requires.node c.in-Some.ensures.link c.in-Some.ensures.child).inward

pub returns-in-Some-clause-at_hand : goal.returns-in-Some-clause-at_hand
returns-in-Some-clause-at_hand c = record {
  in_tree = c.requires.node;
  own_box =
      c.change.ensures
      ∙ (gives_child (tree_from c.args.root.now c.args.nodes.now) c.args.self.now c.args.i c.in-Some.link c.requires.tree c.requires.at_hand c.requires.node c.in-Some.ensures.link c.in-Some.ensures.child).gives;
}
