use Rattle.std.proofs.Common.{◌/◌, ◌+◌, arith}
use Rattle.opt_model.specs.declared.quantity.RowName.TheVariants as row
use Rattle.opt_rows.proofs.Finding.{months_low, months_high, pairs_past}
use Rattle.opt_rows.proofs.diet_names.find_group_of.Goals as goal

pub returns-then-i-months : goal.returns-then-i-months
returns-then-i-months c =
    pairs_past (row.GroupLow c.args.basket c.args.group) (row.GroupHigh c.args.basket c.args.group) 1 c.args.tables.now.settings.months c.args.i _
    (omega (arith, c.if-i-months.true, c.month_count-months.ensures.count)) (omega (arith, c.month_count-months.ensures.count))

pub returns-then-i-eq0 : goal.returns-then-i-eq0
returns-then-i-eq0 c =
    months_low (row.GroupLow c.args.basket c.args.group) (row.GroupHigh c.args.basket c.args.group) 1 c.args.tables.now.settings.months c.args.i (c.args.i / 2) (c.args.i / 2 + 1)
    (omega (arith, c.if-i-months.false, c.month_count-months.ensures.count)) (omega (arith, c.if-i-eq0.true)) (omega arith)

pub returns-else-i-eq0 : goal.returns-else-i-eq0
returns-else-i-eq0 c =
    months_high (row.GroupLow c.args.basket c.args.group) (row.GroupHigh c.args.basket c.args.group) 1 c.args.tables.now.settings.months c.args.i (c.args.i / 2) (c.args.i / 2 + 1)
    (omega (arith, c.if-i-months.false, c.month_count-months.ensures.count)) (omega (arith, c.if-i-eq0.false)) (omega arith)
