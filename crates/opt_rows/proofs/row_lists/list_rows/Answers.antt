use Rattle.std.proofs.Common.{◌≡◌, ◌++◌, map, ap, ◌∙◌, List}
use Rattle.opt_model.specs.Quantities.{quantities}
use Rattle.opt_model.specs.Rows.{rows, nutrient_rows, group_rows, handout_rows, balance_rows, arc_rows, storage_rows, throughput_rows, budget_rows, lot_rows}
use Rattle.opt_model.specs.declared.quantity.Quantity.{Quantity}
use Rattle.opt_rows.specs.Systems.{row_over, cap_rows}
use Rattle.opt_rows.proofs.RowSteps.{seven_lists}
use Rattle.opt_rows.proofs.row_lists.list_rows.Goals as goal

pub returns : goal.returns
returns c =
    let t = c.args.tables.now in
    let qs : List Quantity = c.args.layout.now.quantities in
    let same : qs ≡ quantities t = ap (λ l. l.quantities) c.requires.layout.same in
    seven_lists qs (nutrient_rows t) (group_rows t) (handout_rows t) (balance_rows t) (arc_rows t) (storage_rows t) (throughput_rows t) (budget_rows t t.settings.budget) (lot_rows t) (cap_rows t c.args.cap)
    _ _ _ _ _ _ _ _
    c.new-rows.ensures c.in_ok-add_nutrient_rows.ensures c.in_ok-add_group_rows.ensures c.in_ok-add_handout_rows.ensures c.in_ok-add_network_rows.ensures
    c.in_ok-add_budget_row.ensures c.in_ok-add_lot_rows.ensures c.in_ok-add_cap_row.ensures
    ∙ ap (λ (qs : List Quantity). map (row_over qs) (rows t) ++ cap_rows t c.args.cap) same
