use Rattle.std.proofs.Common.{◌≡◌, ◌<◌, length, get_or, arith}
use Rattle.std.proofs.lemmas.Result.{err_from_is_err_and}
use Rattle.opt_rows.specs.Names.{arc_names_of}
use Rattle.opt_rows.proofs.Finding.{records_more, records_found, records_all}
use Rattle.opt_rows.proofs.network_names.find_arc.Goals as goal

pub returns-in_err-rest : goal.returns-in_err-rest
returns-in_err-rest c =
    let within : c.loop-number.number < length c.args.tables.now.arcs = omega (arith, c.loop-number-test.true, c.arc_count-number-end.ensures) in
    let is : c.index-arcs-number.result ≡ get_or c.args.tables.now.arcs c.loop-number.number c.index-arcs-number.result = rw c.arcs-arcs.ensures at c.index-arcs-number.is in
    let p = err_from_is_err_and c.from_residual.result c.from_residual.ensures.1 in rw (p.1, p.2)
    (records_found (arc_names_of c.args.tables.now) c.args.tables.now.arcs c.loop-number.number c.args.i c.loop-number.rest c.in_err-rest.field-0.0 c.index-arcs-number.result within is c.loop-number.invariant c.in_err-rest.ensures)

pub loop-number-preserved : goal.loop-number-preserved
loop-number-preserved c =
    let within : c.loop-number.number < length c.args.tables.now.arcs = omega (arith, c.loop-number-test.true, c.arc_count-number-end.ensures) in
    let is : c.index-arcs-number.result ≡ get_or c.args.tables.now.arcs c.loop-number.number c.index-arcs-number.result = rw c.arcs-arcs.ensures at c.index-arcs-number.is in
    records_more (arc_names_of c.args.tables.now) c.args.tables.now.arcs c.loop-number.number c.args.i c.loop-number.rest c.in_ok-rest.rest c.index-arcs-number.result within is c.loop-number.invariant c.in_ok-rest.ensures

pub returns : goal.returns
returns c =
    records_all (arc_names_of c.args.tables.now) c.args.tables.now.arcs c.loop-number.number c.args.i c.loop-number.rest
    (omega (arith, c.loop-number-test.false, c.loop-number.auto.number-end, c.arc_count-number-end.ensures)) c.loop-number.invariant
