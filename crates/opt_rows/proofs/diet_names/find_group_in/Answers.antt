use Rattle.std.proofs.Common.{arith}
use Rattle.std.proofs.lemmas.Result.{err_from_is_err_and}
use Rattle.opt_rows.specs.Names.{group_names_of}
use Rattle.opt_rows.proofs.Finding.{numbers_more, numbers_found, numbers_all}
use Rattle.opt_rows.proofs.diet_names.find_group_in.Goals as goal

pub returns-in_err-rest : goal.returns-in_err-rest
returns-in_err-rest c =
    let p = err_from_is_err_and c.from_residual.result c.from_residual.ensures.1 in rw (p.1, p.2)
    (numbers_found (group_names_of c.args.tables.now c.args.basket) c.args.tables.now.groups c.loop-group.group c.args.i c.loop-group.rest c.in_err-rest.field-0.0 (omega (arith, c.loop-group-test.true, c.group_count-group-end.ensures))
    c.loop-group.invariant c.in_err-rest.ensures)

pub loop-group-preserved : goal.loop-group-preserved
loop-group-preserved c =
    numbers_more (group_names_of c.args.tables.now c.args.basket) c.args.tables.now.groups c.loop-group.group c.args.i c.loop-group.rest c.in_ok-rest.rest (omega (arith, c.loop-group-test.true, c.group_count-group-end.ensures))
    c.loop-group.invariant c.in_ok-rest.ensures

pub returns : goal.returns
returns c =
    numbers_all (group_names_of c.args.tables.now c.args.basket) c.args.tables.now.groups c.loop-group.group c.args.i c.loop-group.rest
    (omega (arith, c.loop-group-test.false, c.loop-group.auto.group-end, c.group_count-group-end.ensures)) c.loop-group.invariant
