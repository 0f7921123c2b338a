use Rattle.std.proofs.Common.{◌≡◌, ℕ, pos, get_or, refl, sym, ap, ◌∙◌}
use Rattle.std.specs.Prelude.{◌&&◌, ◌==◌}
use Rattle.opt_model.specs.declared.records.Persons.{Persons}
use Rattle.opt_tables.specs.Amounts.{amount_at, with_amount}
use Rattle.opt_tables.proofs.Spots.{amounts_more}
use Rattle.opt_tables.proofs.amounts.Amounts.of_persons.Goals as goal

pub loop-one-preserved : goal.loop-one-preserved
loop-one-preserved c = λ place item month.
    let none : Persons = record { place = 0; month = 0; persons = pos 0; basket = 0 } in
    let r : Persons = get_or c.args.records.now c.loop-one.one-index none in
    ap (λ entries. amount_at entries place item month) (c.in_ok-add.ensures ∙ ap (λ z. with_amount c.loop-one.heads (record { place = r.place; item = r.basket; month = r.month }) (record { amount = z })) c.of_heads-amount.ensures)
    ∙ amounts_more (λ place item month (r : Persons). (r.place == place) && (r.basket == item) && (r.month == month)) (λ (r : Persons). record { amount = r.persons })
    (λ (r : Persons). record { place = r.place; item = r.basket; month = r.month }) (λ place item month r. refl) c.loop-one.heads c.args.records.now c.loop-one.one-index none c.loop-one-test.true c.loop-one.invariant place item month
