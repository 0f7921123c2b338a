use Rattle.std.proofs.Common.{◌≡◌, ◌<◌, length, get_or, arith}
use Rattle.std.proofs.lemmas.Result.{err_from_is_err_and}
use Rattle.opt_rows.specs.Names.{lot_names_of}
use Rattle.opt_rows.proofs.Finding.{records_more, records_found, records_all}
use Rattle.opt_rows.proofs.lot_names.find_lot.Goals as goal

pub returns-in_err-rest : goal.returns-in_err-rest
returns-in_err-rest c =
    let within : c.loop-number.number < length c.args.tables.now.offers = omega (arith, c.loop-number-test.true, c.offer_count-number-end.ensures) in
    let is : c.index-offers-number.result ≡ get_or c.args.tables.now.offers c.loop-number.number c.index-offers-number.result = rw c.offers-offers.ensures at c.index-offers-number.is in
    let p = err_from_is_err_and c.from_residual.result c.from_residual.ensures.1 in rw (p.1, p.2)
    (records_found (lot_names_of c.args.tables.now) c.args.tables.now.offers c.loop-number.number c.args.i c.loop-number.rest c.in_err-rest.field-0.0 c.index-offers-number.result within is c.loop-number.invariant c.in_err-rest.ensures)

pub loop-number-preserved : goal.loop-number-preserved
loop-number-preserved c =
    let within : c.loop-number.number < length c.args.tables.now.offers = omega (arith, c.loop-number-test.true, c.offer_count-number-end.ensures) in
    let is : c.index-offers-number.result ≡ get_or c.args.tables.now.offers c.loop-number.number c.index-offers-number.result = rw c.offers-offers.ensures at c.index-offers-number.is in
    records_more (lot_names_of c.args.tables.now) c.args.tables.now.offers c.loop-number.number c.args.i c.loop-number.rest c.in_ok-rest.rest c.index-offers-number.result within is c.loop-number.invariant c.in_ok-rest.ensures

pub returns : goal.returns
returns c =
    records_all (lot_names_of c.args.tables.now) c.args.tables.now.offers c.loop-number.number c.args.i c.loop-number.rest
    (omega (arith, c.loop-number-test.false, c.loop-number.auto.number-end, c.offer_count-number-end.ensures)) c.loop-number.invariant
