use Rattle.std.proofs.Common.{◌≡◌, ◌+◌, true, false, pos, int_lt, arith}
use Rattle.std.specs.List.{range_with_len}
use Rattle.std.proofs.lemmas.Int.{ints}
use Rattle.opt_model.specs.declared.quantity.RowName.TheVariants as row
use Rattle.std.proofs.Common.{[], ◌∷◌}
use Rattle.opt_rows.proofs.Finding.{idle_past, busy_found, busy_past}
use Rattle.opt_rows.proofs.network_names.find_storage_of.Goals as goal

pub returns-then-place-le0 : goal.returns-then-place-le0
returns-then-place-le0 c =
    let none : int_lt (pos 0) c.args.place.now.storage ≡ false = grind (arith, ints, c.if-place-le0.true) in
    idle_past (int_lt (pos 0) c.args.place.now.storage) (λ m. row.Storage c.args.number m ∷ []) (range_with_len 1 c.args.tables.now.settings.months) c.args.i none

pub returns-then-i-months : goal.returns-then-i-months
returns-then-i-months c =
    let some : int_lt (pos 0) c.args.place.now.storage ≡ true = grind (arith, ints, c.if-place-le0.false) in
    busy_found (int_lt (pos 0) c.args.place.now.storage) (row.Storage c.args.number) c.args.tables.now.settings.months c.args.i (c.args.i + 1) some
    (omega (arith, c.if-i-months.true, c.month_count-months.ensures.count)) (omega arith)

pub returns : goal.returns
returns c =
    let some : int_lt (pos 0) c.args.place.now.storage ≡ true = grind (arith, ints, c.if-place-le0.false) in
    busy_past (int_lt (pos 0) c.args.place.now.storage) (row.Storage c.args.number) c.args.tables.now.settings.months c.args.i _ some
    (omega (arith, c.if-i-months.false, c.month_count-months.ensures.count)) (omega (arith, c.month_count-months.ensures.count))
