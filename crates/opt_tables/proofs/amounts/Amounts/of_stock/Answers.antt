use Rattle.std.proofs.Common.{◌≡◌, ℕ, pos, get_or, refl, sym, ap, ◌∙◌}
use Rattle.std.specs.Prelude.{◌&&◌, ◌==◌}
use Rattle.opt_model.specs.declared.records.Stock.{Stock}
use Rattle.opt_tables.specs.Amounts.{amount_at, with_amount}
use Rattle.opt_tables.proofs.Spots.{amounts_more}
use Rattle.opt_tables.proofs.amounts.Amounts.of_stock.Goals as goal

pub loop-one-preserved : goal.loop-one-preserved
loop-one-preserved c = λ place item month.
    let none : Stock = record { place = 0; commodity = 0; month = 0; kg = pos 0 } in
    let r : Stock = get_or c.args.records.now c.loop-one.one-index none in
    ap (λ entries. amount_at entries place item month) (c.in_ok-add.ensures ∙ ap (λ z. with_amount c.loop-one.stock (record { place = r.place; item = r.commodity; month = r.month }) (record { amount = z })) c.of_kilograms-amount.ensures)
    ∙ amounts_more (λ place item month (r : Stock). (r.place == place) && (r.commodity == item) && (r.month == month)) (λ (r : Stock). record { amount = r.kg })
    (λ (r : Stock). record { place = r.place; item = r.commodity; month = r.month }) (λ place item month r. refl) c.loop-one.stock c.args.records.now c.loop-one.one-index none c.loop-one-test.true c.loop-one.invariant place item month
