use Rattle.opt_model.specs.Rows.{balance_rows, arc_rows, storage_rows, throughput_rows}
use Rattle.opt_rows.proofs.RowSteps.{four_lists}
use Rattle.opt_rows.proofs.network_rows.add_all.Goals as goal

pub returns : goal.returns
returns c =
    let t = c.args.tables.now in
    four_lists c.args.layout.now.quantities (balance_rows t) (arc_rows t) (storage_rows t) (throughput_rows t) _ _ _ _ _
    c.in_ok-add_balance_rows.ensures c.in_ok-add_arc_rows.ensures c.in_ok-add_storage_rows.ensures c.in_ok-add_throughput_rows.ensures
