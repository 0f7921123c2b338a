use Rattle.optimus.proofs.Breaches.{audits_plan, small_audit}
use Rattle.optimus.proofs.auditing.audit_point.Goals as goal

pub returns-clause-audits : goal.returns-clause-audits
returns-clause-audits c =
    audits_plan c.args.problem.now _ c.in_ok-broken.broken c.in_ok-broken.ensures.value c.in_ok-broken.ensures.feasible c.breaches_reply.result c.breaches_reply.ensures

pub returns-clause-status : goal.returns-clause-status
returns-clause-status c =
    small_audit c.args.problem.now _ c.in_ok-broken.broken c.in_ok-broken.ensures.value c.in_ok-broken.ensures.feasible c.breaches_reply.result c.breaches_reply.ensures
