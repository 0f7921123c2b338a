use Rattle.std.proofs.Common.{◌≡◌, ◌++◌, ◌+ℤ◌, sym, ap, ◌∙◌, append-nil}
use Rattle.opt_model.specs.Quantities.{of_record}
use Rattle.opt_rows.proofs.Absent.{no_shipments}
use Rattle.opt_rows.proofs.cost_terms.add_shipments_if.Goals as goal

pub returns-else-arrives_in_plan : goal.returns-else-arrives_in_plan
returns-else-arrives_in_plan c =
    let t = c.args.tables.now in
    let arc = c.args.arc.now in
    sym (append-nil c.args.terms.now)
    ∙ ap (λ es. c.args.terms.now ++ es)
    (sym (no_shipments t c.args.layout.now c.requires.layout c.args.number arc (arc.cost +ℤ of_record t.places arc.to_place (λ r. r.handling)) c.requires.arc
    (sym c.arrives_in_plan.ensures ∙ c.if-arrives_in_plan.false)))
