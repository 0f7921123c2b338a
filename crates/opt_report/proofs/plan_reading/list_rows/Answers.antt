use Rattle.std.proofs.Common.{◌≡◌, ◌<◌, length, arith, Err}
use Rattle.opt_report.specs.PlanFiles.{listed_in}
use Rattle.opt_report.proofs.ReadRows.{refused_gives, rows_go_on, rows_fail}
use Rattle.opt_report.proofs.plan_reading.list_rows.Goals as goal

pub returns-in_err-list_row-clause-exact : goal.returns-in_err-list_row-clause-exact
returns-in_err-list_row-clause-exact c =
    let t = c.args.tables.now in
    let cells = c.args.cells.now in
    let lt : c.loop-i.i < length cells = omega (arith, c.len-i-end.ensures, c.loop-i-test.true) in
    let failed : listed_in t cells ≡ Err c.in_err-list_row.field-0.0 =
    rows_fail t cells c.loop-i.i lt c.new.result c.new.ensures c.loop-i.listed.items c.in_err-list_row.field-0.0 (listed_in t cells) c.in_err-list_row.ensures.exact c.loop-i.invariant.whole
    in
    refused_gives (λ listed. listed.items) c.from_residual-in_err-list_row.result (listed_in t cells) c.in_err-list_row.field-0.0 c.from_residual-in_err-list_row.ensures.1 failed

pub loop-i-preserved : goal.loop-i-preserved
loop-i-preserved c =
    let t = c.args.tables.now in
    let cells = c.args.cells.now in
    let lt : c.loop-i.i < length cells = omega (arith, c.len-i-end.ensures, c.loop-i-test.true) in
    record {
      whole = rows_go_on t cells c.loop-i.i lt c.new.result c.new.ensures c.loop-i.listed.items c.list_row.new.listed.items (listed_in t cells) c.in_ok-list_row.ensures.exact c.loop-i.invariant.whole;
      listed = c.in_ok-list_row.ensures.listed;
    }
