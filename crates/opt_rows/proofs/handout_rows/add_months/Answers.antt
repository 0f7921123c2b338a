use Rattle.opt_model.specs.Quantities.{list_if}
use Rattle.opt_network.specs.Counts.{is_fed}
use Rattle.opt_rows.specs.Parts.{handout_pair}
use Rattle.opt_rows.proofs.RowSteps.{month_rows}
use Rattle.opt_rows.proofs.handout_rows.add_months.Goals as goal

pub loop-earlier-preserved : goal.loop-earlier-preserved
loop-earlier-preserved c =
    let t = c.args.tables.now in
    let site = c.args.site in
    month_rows c.args.layout.now.quantities _ _ _ (λ m. list_if (is_fed t site.place site.kind m) (handout_pair t site.place c.args.commodity m))
    c.loop-earlier.earlier c.loop-earlier.invariant c.in_ok-add_month.ensures
