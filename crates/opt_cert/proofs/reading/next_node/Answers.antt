use Rattle.std.proofs.Common.{ℤ, Ok, sym, ap, ◌∙◌, subst, rules}
use mir.Syntax.{w64}
use mir.Val.{SFits}
use Rattle.std.proofs.lemmas.Int.{to_z-of_z}
use Rattle.opt_tree.specs.declared.cert_node.CertNode.TheVariants as node
use Rattle.opt_cert.specs.Reading.{reader_after}
use Rattle.opt_cert.specs.Stands.{Stands}
use Rattle.opt_cert.specs.Steps.{PassedNode}
use Rattle.opt_cert.proofs.StepLemmas.{passed_split, passed_leaf}
use Rattle.opt_cert.proofs.reading.next_node.Goals as goal

pub returns-in-Split : goal.returns-in-Split
returns-in-Split c =
    let old = c.args.lines.now in
    let new = c.next.new.self in
    let fits : SFits w64 c.in-Split.at = search rules in
    let passed = passed_split old new c.requires.0 c.in-Split.quantity c.in-Split.at c.requires.1 (c.in_ok-quantity.ensures.line ∙ ap Ok c.in-Split.is) (c.in_ok-quantity.ensures.after ∙ ap (reader_after old) c.in-Split.is) (subst (Stands old.place) c.in-Split.is c.in_ok-quantity.ensures.stands) c.next.ensures.few in
    let P : ℤ → Type 0 = λ z. PassedNode (node.Split c.in-Split.quantity z) old new in
    subst P (sym (to_z-of_z w64 c.in-Split.at fits)) passed

pub returns-in-Leaf : goal.returns-in-Leaf
returns-in-Leaf c =
    let old = c.args.lines.now in
    passed_leaf old c.next.new.self c.requires.0 c.in-Leaf.mult c.requires.1 (c.in_ok-quantity.ensures.line ∙ ap Ok c.in-Leaf.is) (c.in_ok-quantity.ensures.after ∙ ap (reader_after old) c.in-Leaf.is) (subst (Stands old.place) c.in-Leaf.is c.in_ok-quantity.ensures.stands) c.next.ensures.few
