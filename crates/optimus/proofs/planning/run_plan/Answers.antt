use Rattle.optimus.proofs.Replies.{runs_reply}
use Rattle.optimus.proofs.planning.run_plan.Goals as goal

pub returns : goal.returns
returns g c = record {
  runs = runs_reply _ c.plan_reply-reply.result c.give.result _ _ _ _ _ _ _ _ _ _ c.plan_reply-reply.ensures.answers c.plan_reply-reply.ensures.status
      c.plan_reply-reply.ensures.same c.plan_reply-reply.ensures.cause c.give.ensures;
}
