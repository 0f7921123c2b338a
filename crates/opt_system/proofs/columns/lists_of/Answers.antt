use Rattle.std.proofs.Common.{◌≡◌, ap, ◌∙◌, get_or}
use Rattle.opt_system.specs.declared.rows.Row.{Row}
use Rattle.opt_system.specs.Columns.{AddsRow}
use Rattle.opt_system.proofs.ColumnLemmas.{AreColumns-more}
use Rattle.opt_system.proofs.columns.lists_of.Goals as goal

pub loop-i-preserved : goal.loop-i-preserved
loop-i-preserved c =
    let same : c.as_slice.result.now ≡ (get_or c.args.rows.now c.loop-i.i c.index-rows-i.result).terms =
    c.as_slice.ensures ∙ ap (λ (r : Row). r.terms) c.index-rows-i.is
    in
    let added : AddsRow c.loop-i.columns.items c.add_row.new.columns.items c.loop-i.i c.as_slice.result.now = c.in_ok-add_row.ensures in
    AreColumns-more _ _ _ c.args.rows.now c.loop-i.i c.index-rows-i.result c.loop-i-test.true c.loop-i.invariant
    (rw same at added)
