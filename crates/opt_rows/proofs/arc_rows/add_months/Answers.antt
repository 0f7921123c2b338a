use Rattle.std.proofs.Common.{◌+◌, ◌∷◌, [], pos}
use Rattle.std.specs.Prelude.{nat_le}
use Rattle.opt_model.specs.Quantities.{over, list_if}
use Rattle.opt_model.specs.Rows.{at_most_row}
use Rattle.opt_model.specs.declared.quantity.Quantity.TheVariants.{Ship}
use Rattle.opt_model.specs.declared.quantity.RowName.TheVariants as row
use Rattle.opt_rows.proofs.RowSteps.{month_rows}
use Rattle.opt_rows.proofs.arc_rows.add_months.Goals as goal

pub loop-earlier-preserved : goal.loop-earlier-preserved
loop-earlier-preserved c =
    month_rows c.args.layout.now.quantities _ _ _ (λ m. list_if (nat_le (m + c.args.arc.now.lead) c.args.tables.now.settings.months)
    (at_most_row (row.Arc c.args.number m) (over c.args.tables.now.commodities λ n _. (Ship c.args.number n m, pos 1) ∷ []) c.args.arc.now.capacity))
    c.loop-earlier.earlier c.loop-earlier.invariant c.in_ok-add_month.ensures
