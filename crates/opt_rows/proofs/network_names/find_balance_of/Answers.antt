use Rattle.std.proofs.Common.{◌+◌, arith}
use Rattle.opt_model.specs.declared.quantity.RowName.TheVariants as row
use Rattle.opt_rows.proofs.Finding.{months_found, months_past}
use Rattle.opt_rows.proofs.network_names.find_balance_of.Goals as goal

pub returns-then-i-months : goal.returns-then-i-months
returns-then-i-months c =
    months_found (row.Balance c.args.place c.args.commodity) 1 c.args.tables.now.settings.months c.args.i (c.args.i + 1) (omega (arith, c.if-i-months.true, c.month_count-months.ensures.count)) (omega arith)

pub returns : goal.returns
returns c =
    months_past (row.Balance c.args.place c.args.commodity) 1 c.args.tables.now.settings.months c.args.i _ (omega (arith, c.if-i-months.false, c.month_count-months.ensures.count)) (omega (arith, c.month_count-months.ensures.count))
