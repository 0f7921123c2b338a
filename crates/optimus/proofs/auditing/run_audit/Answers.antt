use Rattle.optimus.proofs.Replies.{runs_reply}
use Rattle.optimus.proofs.auditing.run_audit.Goals as goal

pub returns : goal.returns
returns g c = record {
  runs = runs_reply _ c.audit_reply-reply.result c.give.result _ _ _ _ _ _ _ _ _ _ c.audit_reply-reply.ensures.answers c.audit_reply-reply.ensures.status
      c.audit_reply-reply.ensures.same c.audit_reply-reply.ensures.cause c.give.ensures;
}
