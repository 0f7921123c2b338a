use Rattle.opt_rows.specs.Parts.{nutrient_row}
use Rattle.opt_rows.proofs.RowSteps.{month_rows}
use Rattle.opt_rows.proofs.nutrient_rows.add_months.Goals as goal

pub loop-earlier-preserved : goal.loop-earlier-preserved
loop-earlier-preserved c =
    month_rows c.args.layout.now.quantities _ _ _ (nutrient_row c.args.tables.now c.args.demand.now.number c.args.demand.now.need.now)
    c.loop-earlier.earlier c.loop-earlier.invariant c.in_ok-add_row.ensures
