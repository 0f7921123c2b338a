use Rattle.opt_rows.specs.Parts.{group_pair}
use Rattle.opt_rows.proofs.RowSteps.{month_rows}
use Rattle.opt_rows.proofs.group_rows.add_months.Goals as goal

pub loop-earlier-preserved : goal.loop-earlier-preserved
loop-earlier-preserved c =
    let share = c.args.share.now in
    month_rows c.args.layout.now.quantities _ _ _ (group_pair c.args.tables.now share.basket share.number share.group.now) c.loop-earlier.earlier c.loop-earlier.invariant c.in_ok-add_both.ensures
