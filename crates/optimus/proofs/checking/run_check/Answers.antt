use Rattle.optimus.proofs.Replies.{runs_reply}
use Rattle.optimus.proofs.checking.run_check.Goals as goal

pub returns : goal.returns
returns g c = record {
  runs = runs_reply _ c.check_reply-reply.result c.give.result _ _ _ _ _ _ _ _ _ _ c.check_reply-reply.ensures.answers c.check_reply-reply.ensures.status
      c.check_reply-reply.ensures.same c.check_reply-reply.ensures.cause c.give.ensures;
}
