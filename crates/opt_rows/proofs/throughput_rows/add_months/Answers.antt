use Rattle.std.proofs.Common.{Some}
use Rattle.opt_model.specs.Rows.{throughput_row}
use Rattle.opt_rows.proofs.RowSteps.{month_rows}
use Rattle.opt_rows.proofs.throughput_rows.add_months.Goals as goal

pub loop-earlier-preserved : goal.loop-earlier-preserved
loop-earlier-preserved c =
    month_rows c.args.layout.now.quantities _ _ _ (λ m. throughput_row c.args.tables.now c.args.intake.now.place (Some c.args.intake.now.throughput) m) c.loop-earlier.earlier c.loop-earlier.invariant c.in_ok-add_row.ensures
