use Rattle.std.proofs.Common.{◌≡◌, ◌<◌, ◌+◌, ◌∷◌, [], pos, length, get_or, arith}
use Rattle.std.specs.Prelude.{nat_le}
use Rattle.opt_model.specs.Quantities.{over, over_months, list_if}
use Rattle.opt_model.specs.Rows.{at_most_row}
use Rattle.opt_model.specs.declared.quantity.Quantity.TheVariants.{Ship}
use Rattle.opt_model.specs.declared.quantity.RowName.TheVariants as row
use Rattle.opt_rows.proofs.RowSteps.{arc_facts, record_rows}
use Rattle.opt_rows.proofs.arc_rows.add_arc_rows.Goals as goal

pub loop-number-preserved : goal.loop-number-preserved
loop-number-preserved c =
    let within : c.loop-number.number < length c.args.tables.now.arcs = omega (arith, c.loop-number-test.true, c.arc_count-number-end.ensures) in
    let is : c.index-arcs-number.result ≡ get_or c.args.tables.now.arcs c.loop-number.number c.index-arcs-number.result = rw c.arcs-arcs.ensures at c.index-arcs-number.is in
    record_rows c.args.layout.now.quantities _ _ _
    (λ a x. over_months c.args.tables.now λ m. list_if (nat_le (m + x.lead) c.args.tables.now.settings.months)
    (at_most_row (row.Arc a m) (over c.args.tables.now.commodities λ n _. (Ship a n m, pos 1) ∷ []) x.capacity))
    c.args.tables.now.arcs _ c.index-arcs-number.result within is c.loop-number.invariant c.in_ok-add_months.ensures

pub add_months-requires-clause-capacity : goal.add_months-requires-clause-capacity
add_months-requires-clause-capacity c =
    let within : c.loop-number.number < length c.args.tables.now.arcs = omega (arith, c.loop-number-test.true, c.arc_count-number-end.ensures) in
    let is : c.index-arcs-number.result ≡ get_or c.args.tables.now.arcs c.loop-number.number c.index-arcs-number.result = rw c.arcs-arcs.ensures at c.index-arcs-number.is in
    (arc_facts c.args.tables.now c.settings-settings.ensures.model c.loop-number.number c.index-arcs-number.result within is).capacity.above

pub add_months-requires-clause-lead : goal.add_months-requires-clause-lead
add_months-requires-clause-lead c =
    let within : c.loop-number.number < length c.args.tables.now.arcs = omega (arith, c.loop-number-test.true, c.arc_count-number-end.ensures) in
    let is : c.index-arcs-number.result ≡ get_or c.args.tables.now.arcs c.loop-number.number c.index-arcs-number.result = rw c.arcs-arcs.ensures at c.index-arcs-number.is in
    (arc_facts c.args.tables.now c.settings-settings.ensures.model c.loop-number.number c.index-arcs-number.result within is).lead
