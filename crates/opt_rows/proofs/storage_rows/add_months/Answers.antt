use Rattle.std.proofs.Common.{◌∷◌, [], pos}
use Rattle.std.specs.Prelude.{int_lt}
use Rattle.opt_model.specs.Quantities.{over, list_if}
use Rattle.opt_model.specs.Rows.{at_most_row}
use Rattle.opt_model.specs.declared.quantity.Quantity.TheVariants.{Keep}
use Rattle.opt_model.specs.declared.quantity.RowName.TheVariants as row
use Rattle.opt_rows.proofs.RowSteps.{month_rows}
use Rattle.opt_rows.proofs.storage_rows.add_months.Goals as goal

pub loop-earlier-preserved : goal.loop-earlier-preserved
loop-earlier-preserved c =
    month_rows c.args.layout.now.quantities _ _ _ (λ m. list_if (int_lt (pos 0) c.args.place.now.storage)
    (at_most_row (row.Storage c.args.number m) (over c.args.tables.now.commodities λ n _. (Keep c.args.number n m, pos 1) ∷ []) c.args.place.now.storage))
    c.loop-earlier.earlier c.loop-earlier.invariant c.in_ok-add_month.ensures
