use Rattle.std.proofs.Common.{Ok, Err, Result, OnOk, subst}
use Rattle.opt_tree.specs.Nodes.{Tree, IsTree}
use Rattle.opt_tree.proofs.BoxLemmas.{IsBox, box_of-IsBox}
use Rattle.opt_tree.proofs.tree.Tree.range_of.Goals as goal

on_ok : {A E P : Type 0} (r : Result A E) → P → OnOk r P
on_ok (Ok a) p = p
on_ok (Err e) p = tt

pub returns-clause-within : goal.returns-clause-within
returns-clause-within c =
    let tree : IsTree c.args.self.now = subst (λ (t : Tree). IsTree t) c.self.view_is c.self.invariant.0 in
    let box : IsBox c.args.self.now c.args.leaf = box_of-IsBox c.args.self.now c.args.leaf tree c.requires.in_tree in
    on_ok c.range_of.result box.within
