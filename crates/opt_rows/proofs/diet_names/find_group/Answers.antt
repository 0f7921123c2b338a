use Rattle.std.proofs.Common.{arith}
use Rattle.std.proofs.lemmas.Result.{err_from_is_err_and}
use Rattle.opt_rows.specs.Names.{group_names_in}
use Rattle.opt_rows.proofs.Finding.{numbers_more, numbers_found, numbers_all}
use Rattle.opt_rows.proofs.diet_names.find_group.Goals as goal

pub returns-in_err-rest : goal.returns-in_err-rest
returns-in_err-rest c =
    let p = err_from_is_err_and c.from_residual.result c.from_residual.ensures.1 in rw (p.1, p.2)
    (numbers_found (group_names_in c.args.tables.now) c.args.tables.now.baskets c.loop-basket.basket c.args.i c.loop-basket.rest c.in_err-rest.field-0.0 (omega (arith, c.loop-basket-test.true, c.basket_count-basket-end.ensures))
    c.loop-basket.invariant c.in_err-rest.ensures)

pub loop-basket-preserved : goal.loop-basket-preserved
loop-basket-preserved c =
    numbers_more (group_names_in c.args.tables.now) c.args.tables.now.baskets c.loop-basket.basket c.args.i c.loop-basket.rest c.in_ok-rest.rest (omega (arith, c.loop-basket-test.true, c.basket_count-basket-end.ensures))
    c.loop-basket.invariant c.in_ok-rest.ensures

pub returns : goal.returns
returns c =
    numbers_all (group_names_in c.args.tables.now) c.args.tables.now.baskets c.loop-basket.basket c.args.i c.loop-basket.rest
    (omega (arith, c.loop-basket-test.false, c.loop-basket.auto.basket-end, c.basket_count-basket-end.ensures)) c.loop-basket.invariant
