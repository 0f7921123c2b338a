use Rattle.opt_rows.specs.Parts.{balance_row}
use Rattle.opt_rows.proofs.RowSteps.{month_rows}
use Rattle.opt_rows.proofs.balance_rows.add_months.Goals as goal

pub loop-earlier-preserved : goal.loop-earlier-preserved
loop-earlier-preserved c =
    month_rows c.args.layout.now.quantities _ _ _ (balance_row c.args.tables.now c.args.flows.now.place c.args.commodity) c.loop-earlier.earlier c.loop-earlier.invariant c.in_ok-add_row.ensures
