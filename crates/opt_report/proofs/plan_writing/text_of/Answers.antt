use Rattle.std.proofs.Common.{◌≡◌, Some, position, sym, ap, ◌∙◌}
use Rattle.csv.specs.Writing.{row_text, default_writer}
use Rattle.opt_base.specs.declared.refusal.File.TheVariants as file
use Rattle.opt_model.specs.Columns.{column_names}
use Rattle.opt_model.specs.Quantities.{quantities, same_quantity}
use Rattle.opt_report.proofs.Listing.{exists, same_quantities}
use Rattle.opt_report.proofs.PlanTexts.{records_more}
use Rattle.opt_report.proofs.plan_writing.text_of.Goals as goal

pub add_quantity-requires-clause-exists : goal.add_quantity-requires-clause-exists
add_quantity-requires-clause-exists c =
    let t = c.args.tables.now in
    let q = c.quantity.result in
    exists t q c.loop-i.i (ap (position (same_quantity q)) (sym (same_quantities t c.args.layout.now c.requires.layout)) ∙ c.quantity.ensures.inverse)

pub loop-i-preserved : goal.loop-i-preserved
loop-i-preserved c =
    let t = c.args.tables.now in
    let q = c.quantity.result in
    let found : position (same_quantity q) (quantities t) ≡ Some c.loop-i.i =
    ap (position (same_quantity q)) (sym (same_quantities t c.args.layout.now c.requires.layout)) ∙ c.quantity.ensures.inverse
    in
    let more = rw c.as_slice-values.ensures at c.in_ok-add_quantity.ensures in
    records_more t c.args.point.now (row_text default_writer (column_names file.Plan)) c.loop-i.text.items c.add_quantity.new.text.items q c.loop-i.i found c.loop-i.invariant more
