use Rattle.std.proofs.Common.{◌≡◌, ◌≢◌, []}
use Rattle.optimus.proofs.Breaches.{reports_plan, reports_broken, small_audit, small_written}
use Rattle.optimus.proofs.reporting.report_point.Goals as goal

pub returns-then-is_empty-clause-reports : goal.returns-then-is_empty-clause-reports
returns-then-is_empty-clause-reports c =
    let none : c.in_ok-broken.broken ≡ [] = c.is_empty.ensures.0 c.if-is_empty.true in
    reports_plan c.args.problem.now _ c.in_ok-broken.broken c.in_ok-broken.ensures.value c.in_ok-broken.ensures.feasible c.args.folder.now c.reports_reply.result
    none c.reports_reply.ensures

pub returns-then-is_empty-clause-status : goal.returns-then-is_empty-clause-status
returns-then-is_empty-clause-status c =
    small_written c.args.problem.now _ c.in_ok-broken.broken c.in_ok-broken.ensures.value c.in_ok-broken.ensures.feasible c.args.folder.now c.reports_reply.result
    c.reports_reply.ensures

pub returns-clause-reports : goal.returns-clause-reports
returns-clause-reports c =
    let some : c.in_ok-broken.broken ≢ [] = λ none. let t = c.is_empty.ensures.1 none in let f = c.if-is_empty.false in cc in
    reports_broken c.args.problem.now _ c.in_ok-broken.broken c.in_ok-broken.ensures.value c.in_ok-broken.ensures.feasible c.args.folder.now c.breaches_reply.result
    some c.breaches_reply.ensures

pub returns-clause-status : goal.returns-clause-status
returns-clause-status c =
    small_audit c.args.problem.now _ c.in_ok-broken.broken c.in_ok-broken.ensures.value c.in_ok-broken.ensures.feasible c.breaches_reply.result c.breaches_reply.ensures
