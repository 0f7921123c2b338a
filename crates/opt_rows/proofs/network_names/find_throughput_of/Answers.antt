use Rattle.std.proofs.Common.{◌≡◌, ◌+◌, true, false, rules, arith}
use Rattle.std.specs.Prelude.{is_none}
use Rattle.std.specs.List.{range_with_len}
use Rattle.opt_rows.proofs.Finding.{free_past, limit_found, limit_past}
use Rattle.opt_rows.proofs.network_names.find_throughput_of.Goals as goal

pub returns-then-is_none : goal.returns-then-is_none
returns-then-is_none c =
    let none : is_none c.args.place.now.throughput ≡ true = search rules in
    free_past c.args.number c.args.place.now.throughput (range_with_len 1 c.args.tables.now.settings.months) c.args.i none

pub returns-then-i-months : goal.returns-then-i-months
returns-then-i-months c =
    let some : is_none c.args.place.now.throughput ≡ false = search rules in
    limit_found c.args.number c.args.place.now.throughput c.args.tables.now.settings.months c.args.i (c.args.i + 1) some
    (omega (arith, c.if-i-months.true, c.month_count-months.ensures.count)) (omega arith)

pub returns : goal.returns
returns c =
    let some : is_none c.args.place.now.throughput ≡ false = search rules in
    limit_past c.args.number c.args.place.now.throughput c.args.tables.now.settings.months c.args.i _ some
    (omega (arith, c.if-i-months.false, c.month_count-months.ensures.count)) (omega (arith, c.month_count-months.ensures.count))
