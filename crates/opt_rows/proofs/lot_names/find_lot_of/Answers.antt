use Rattle.std.proofs.Common.{◌+◌, arith}
use Rattle.std.proofs.lemmas.Result.{err_from_is_err_and}
use Rattle.opt_rows.specs.Names.{lot_names_in}
use Rattle.opt_rows.proofs.Finding.{month_more, month_found, month_all}
use Rattle.opt_rows.proofs.lot_names.find_lot_of.Goals as goal

pub returns-in_err-rest : goal.returns-in_err-rest
returns-in_err-rest c =
    let p = err_from_is_err_and c.from_residual.result c.from_residual.ensures.1 in rw (p.1, p.2)
    (month_found (lot_names_in c.args.number c.args.offer.now) c.args.tables.now.settings.months c.loop-earlier.earlier c.args.i c.loop-earlier.rest (c.loop-earlier.earlier + 1) c.in_err-rest.field-0.0
    (omega (arith, c.loop-earlier-test.true, c.month_count-earlier-end.ensures.count)) (omega arith) c.loop-earlier.invariant c.in_err-rest.ensures)

pub loop-earlier-preserved : goal.loop-earlier-preserved
loop-earlier-preserved c =
    month_more (lot_names_in c.args.number c.args.offer.now) c.args.tables.now.settings.months c.loop-earlier.earlier c.args.i c.loop-earlier.rest c.in_ok-rest.rest (c.loop-earlier.earlier + 1)
    (omega (arith, c.loop-earlier-test.true, c.month_count-earlier-end.ensures.count)) (omega arith) c.loop-earlier.invariant c.in_ok-rest.ensures

pub returns : goal.returns
returns c =
    month_all (lot_names_in c.args.number c.args.offer.now) c.args.tables.now.settings.months c.loop-earlier.earlier c.args.i c.loop-earlier.rest
    (omega (arith, c.loop-earlier-test.false, c.loop-earlier.auto.earlier-end, c.month_count-earlier-end.ensures.count)) c.loop-earlier.invariant
