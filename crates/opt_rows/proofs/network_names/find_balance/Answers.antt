use Rattle.std.proofs.Common.{arith}
use Rattle.std.proofs.lemmas.Result.{err_from_is_err_and}
use Rattle.opt_rows.specs.Names.{balance_names_at}
use Rattle.opt_rows.proofs.Finding.{numbers_more, numbers_found, numbers_all}
use Rattle.opt_rows.proofs.network_names.find_balance.Goals as goal

pub returns-in_err-rest : goal.returns-in_err-rest
returns-in_err-rest c =
    let p = err_from_is_err_and c.from_residual.result c.from_residual.ensures.1 in rw (p.1, p.2)
    (numbers_found (balance_names_at c.args.tables.now) c.args.tables.now.places c.loop-place.place c.args.i c.loop-place.rest c.in_err-rest.field-0.0 (omega (arith, c.loop-place-test.true, c.place_count-place-end.ensures))
    c.loop-place.invariant c.in_err-rest.ensures)

pub loop-place-preserved : goal.loop-place-preserved
loop-place-preserved c =
    numbers_more (balance_names_at c.args.tables.now) c.args.tables.now.places c.loop-place.place c.args.i c.loop-place.rest c.in_ok-rest.rest (omega (arith, c.loop-place-test.true, c.place_count-place-end.ensures))
    c.loop-place.invariant c.in_ok-rest.ensures

pub returns : goal.returns
returns c =
    numbers_all (balance_names_at c.args.tables.now) c.args.tables.now.places c.loop-place.place c.args.i c.loop-place.rest
    (omega (arith, c.loop-place-test.false, c.loop-place.auto.place-end, c.place_count-place-end.ensures)) c.loop-place.invariant
