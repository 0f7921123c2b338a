use Rattle.std.proofs.Common.{◌≡◌, ◌<◌, ◌∷◌, ◌++◌, [], length, ap, sym, ◌∙◌, subst}
use Rattle.opt_tree.specs.Nodes.{IsSplit}
use Rattle.opt_cert.proofs.WriteLemmas.{IsStep, split_step, two_more}
use Rattle.opt_cert.proofs.writing.node_line.Goals as goal

-- the right tree waits, and then the left one
noted : (c : goal.In_ok-push-in-Split-2) → c.push-in-Split.new.self.items ≡ (c.args.waiting.now.items ++ c.in-Split.right ∷ []) ++ c.in-Split.left ∷ []
noted c = c.in_ok-push-in-Split-2.ensures.items ∙ ap (λ w. w ++ c.in-Split.left ∷ []) c.in_ok-push-in-Split.ensures.items

step : (c : goal.In_ok-push-in-Split-2) → IsStep c.args.tree.now c.args.text.now.items c.split_line.new.text.items c.args.waiting.now.items c.push-in-Split.new.self.items c.args.i
step c =
    subst (λ w. IsStep c.args.tree.now c.args.text.now.items c.split_line.new.text.items c.args.waiting.now.items w c.args.i) (sym (noted c))
    (split_step c.args.tree.now c.args.text.now.items c.split_line.new.text.items c.args.waiting.now.items c.args.i c.in-Split.quantity c.in-Split.at c.in-Split.left c.in-Split.right c.requires.tree c.requires.node (sym c.node-node.ensures ∙ c.in-Split.is) c.in_ok-split_line-in-Split.ensures)

pub returns-in_ok-push-in-Split-2-clause-whole : goal.returns-in_ok-push-in-Split-2-clause-whole
returns-in_ok-push-in-Split-2-clause-whole c = (step c).whole

pub returns-in_ok-push-in-Split-2-clause-fewer : goal.returns-in_ok-push-in-Split-2-clause-fewer
returns-in_ok-push-in-Split-2-clause-fewer c = (step c).fewer

pub returns-in_ok-push-in-Split-2-clause-nodes : goal.returns-in_ok-push-in-Split-2-clause-nodes
returns-in_ok-push-in-Split-2-clause-nodes c =
    let s : IsSplit c.args.tree.now c.args.i c.in-Split.quantity c.in-Split.at c.in-Split.left c.in-Split.right =
    c.requires.tree.splits c.args.i c.in-Split.quantity c.in-Split.at c.in-Split.left c.in-Split.right c.requires.node (sym c.node-node.ensures ∙ c.in-Split.is) in
    two_more (λ k. k < length c.args.tree.now.nodes) c.args.waiting.now.items c.push-in-Split.new.self.items c.in-Split.right c.in-Split.left c.requires.nodes s.right_in_tree s.left_in_tree (noted c)
