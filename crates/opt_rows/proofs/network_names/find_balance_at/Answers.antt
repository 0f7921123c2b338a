use Rattle.std.proofs.Common.{arith}
use Rattle.std.proofs.lemmas.Result.{err_from_is_err_and}
use Rattle.opt_rows.specs.Names.{balance_names_of}
use Rattle.opt_rows.proofs.Finding.{numbers_more, numbers_found, numbers_all}
use Rattle.opt_rows.proofs.network_names.find_balance_at.Goals as goal

pub returns-in_err-rest : goal.returns-in_err-rest
returns-in_err-rest c =
    let p = err_from_is_err_and c.from_residual.result c.from_residual.ensures.1 in rw (p.1, p.2)
    (numbers_found (balance_names_of c.args.tables.now c.args.place) c.args.tables.now.commodities c.loop-commodity.commodity c.args.i c.loop-commodity.rest c.in_err-rest.field-0.0 (omega (arith, c.loop-commodity-test.true, c.commodity_count-commodity-end.ensures))
    c.loop-commodity.invariant c.in_err-rest.ensures)

pub loop-commodity-preserved : goal.loop-commodity-preserved
loop-commodity-preserved c =
    numbers_more (balance_names_of c.args.tables.now c.args.place) c.args.tables.now.commodities c.loop-commodity.commodity c.args.i c.loop-commodity.rest c.in_ok-rest.rest (omega (arith, c.loop-commodity-test.true, c.commodity_count-commodity-end.ensures))
    c.loop-commodity.invariant c.in_ok-rest.ensures

pub returns : goal.returns
returns c =
    numbers_all (balance_names_of c.args.tables.now c.args.place) c.args.tables.now.commodities c.loop-commodity.commodity c.args.i c.loop-commodity.rest
    (omega (arith, c.loop-commodity-test.false, c.loop-commodity.auto.commodity-end, c.commodity_count-commodity-end.ensures)) c.loop-commodity.invariant
