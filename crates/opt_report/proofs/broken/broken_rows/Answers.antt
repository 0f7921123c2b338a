use Rattle.std.proofs.Common.{◌≡◌, ◌<◌, ◌≤◌, ◌++◌, length, List, ℤ, subst, ◌∙◌, arith}
use Rattle.opt_system.specs.Systems.{row_at}
use Rattle.opt_report.specs.Broken.{breach_at}
use Rattle.opt_report.proofs.Breaches.{breaches_same, breaches_more, breaches_all, numbers_of_rows}
use Rattle.opt_report.proofs.broken.broken_rows.Goals as goal

pub loop-i-preserved : goal.loop-i-preserved
loop-i-preserved c =
    let p = c.args.system.now in
    let within : c.loop-i.i < length p.rows = omega (arith, c.loop-i-test.true, c.rows-i-end.ensures.count) in
    breaches_more p c.args.point.now c.loop-i.rows.items c.add_row.new.rows.items c.loop-i.i within c.loop-i.invariant
    (subst (λ (x : List ℤ). c.add_row.new.rows.items ≡ c.loop-i.rows.items ++ breach_at x c.loop-i.i (row_at p.rows c.loop-i.i)) c.as_slice.ensures c.in_ok-add_row.ensures)

pub returns-clause-of_model : goal.returns-clause-of_model
returns-clause-of_model c = λ t goal is.
    let p = c.args.system.now in
    let past : length p.rows ≤ c.loop-i.i = omega (arith, c.loop-i-test.false, c.rows-i-end.ensures.count) in
    breaches_all p c.args.point.now c.loop-i.rows.items c.loop-i.i past c.loop-i.invariant ∙ breaches_same t c.args.point.now goal p is

pub returns-clause-numbers : goal.returns-clause-numbers
returns-clause-numbers c = λ t goal is.
    let p = c.args.system.now in
    let past : length p.rows ≤ c.loop-i.i = omega (arith, c.loop-i-test.false, c.rows-i-end.ensures.count) in
    numbers_of_rows t goal p c.args.point.now c.loop-i.rows.items (breaches_all p c.args.point.now c.loop-i.rows.items c.loop-i.i past c.loop-i.invariant) is
