use Rattle.std.proofs.Common.{◌+◌, arith}
use Rattle.opt_model.specs.declared.quantity.RowName.TheVariants as row
use Rattle.opt_rows.proofs.Finding.{departures_found, departures_past}
use Rattle.opt_rows.proofs.network_names.find_arc_of.Goals as goal

pub returns-then-i-departures : goal.returns-then-i-departures
returns-then-i-departures c =
    departures_found (row.Arc c.args.number) c.args.arc.now.lead c.args.tables.now.settings.months c.args.i (c.args.i + 1)
    (omega (arith, c.if-i-departures.true, c.month_count.ensures.count, c.saturating_sub-departures.ensures)) (omega arith)

pub returns : goal.returns
returns c =
    departures_past (row.Arc c.args.number) c.args.arc.now.lead c.args.tables.now.settings.months c.args.i _
    (omega (arith, c.if-i-departures.false, c.month_count.ensures.count, c.saturating_sub-departures.ensures))
    (omega (arith, c.month_count.ensures.count, c.saturating_sub-departures.ensures))
