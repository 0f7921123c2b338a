use Rattle.std.proofs.Common.{◌≡◌, ◌<◌, ◌∷◌, [], ◌+ℤ◌, length, get_or, Some, sym, ap, ◌∙◌, arith}
use Rattle.std.proofs.lemmas.Option.{slice_get-get_or}
use Rattle.opt_model.specs.Quantities.{over, over_months, of_record}
use Rattle.opt_model.specs.declared.quantity.Quantity.TheVariants.{Ship}
use Rattle.opt_rows.proofs.RowSteps.{arc_facts, record_terms}
use Rattle.opt_rows.proofs.cost_terms.add_shipments.Goals as goal

pub loop-number-preserved : goal.loop-number-preserved
loop-number-preserved c =
    let within : c.loop-number.number < length c.args.tables.now.arcs = omega (arith, c.loop-number-test.true, c.arc_count-number-end.ensures) in
    let is : c.index-arcs-number.result ≡ get_or c.args.tables.now.arcs c.loop-number.number c.index-arcs-number.result = rw c.arcs-arcs.ensures at c.index-arcs-number.is in
    record_terms c.args.layout.now.quantities _ _ _ (λ n r. over c.args.tables.now.commodities λ k _. over_months c.args.tables.now λ m. (Ship n k m, r.cost +ℤ of_record c.args.tables.now.places r.to_place (λ p. p.handling)) ∷ [])
    c.args.tables.now.arcs _ c.index-arcs-number.result within is c.loop-number.invariant c.in_ok-add_shipments_if.ensures

pub add_shipments_if-requires-clause-price : goal.add_shipments_if-requires-clause-price
add_shipments_if-requires-clause-price c =
    let within : c.loop-number.number < length c.args.tables.now.arcs = omega (arith, c.loop-number-test.true, c.arc_count-number-end.ensures) in
    let is : c.index-arcs-number.result ≡ get_or c.args.tables.now.arcs c.loop-number.number c.index-arcs-number.result = rw c.arcs-arcs.ensures at c.index-arcs-number.is in
    (arc_facts c.args.tables.now c.settings-settings.ensures.model c.loop-number.number c.index-arcs-number.result within is).cost

pub add_shipments_if-requires-clause-arc : goal.add_shipments_if-requires-clause-arc
add_shipments_if-requires-clause-arc c =
    let within : c.loop-number.number < length c.args.tables.now.arcs = omega (arith, c.loop-number-test.true, c.arc_count-number-end.ensures) in
    let is : c.index-arcs-number.result ≡ get_or c.args.tables.now.arcs c.loop-number.number c.index-arcs-number.result = rw c.arcs-arcs.ensures at c.index-arcs-number.is in
    slice_get-get_or c.args.tables.now.arcs c.loop-number.number c.index-arcs-number.result within ∙ ap Some (sym is)
