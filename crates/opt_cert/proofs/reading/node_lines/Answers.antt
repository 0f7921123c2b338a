use Rattle.std.proofs.Common.{Option, Ok, sym, subst}
use Rattle.opt_tree.specs.declared.cert_node.CertNode.{CertNode}
use Rattle.opt_cert.specs.Steps.{PassesNode}
use Rattle.opt_cert.proofs.StepLemmas.{IsReading, reading_start, reading_step, reading_end, ended}
use Rattle.opt_cert.proofs.reading.node_lines.Goals as goal

pub loop-nodes-init : goal.loop-nodes-init
loop-nodes-init c =
    subst (IsReading c.args.lines.now c.args.lines.now) (sym c.new-nodes.ensures.items) (reading_start c.args.lines.now c.requires)

pub loop-nodes-preserved : goal.loop-nodes-preserved
loop-nodes-preserved c =
    let P : Option CertNode → Type 0 = λ o. PassesNode (Ok o) c.loop-nodes.lines c.next_node.new.lines in
    reading_step c.args.lines.now c.loop-nodes.lines c.next_node.new.lines c.loop-nodes.nodes.items c.push.new.self.items c.in-Some.node c.loop-nodes.invariant (subst P c.in-Some.is c.in_ok-node.ensures) c.in_ok-push.ensures.items

pub returns-clause-tree : goal.returns-clause-tree
returns-clause-tree c =
    (reading_end c.args.lines.now c.loop-nodes.lines c.loop-nodes.nodes.items c.loop-nodes.invariant (ended c.in_ok-node.field-0 c.loop-nodes.lines c.next_node.new.lines c.in_default.not-Some c.in_ok-node.ensures)).1
