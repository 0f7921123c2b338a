use Rattle.optimus.proofs.Replies.{runs_reply}
use Rattle.optimus.proofs.reporting.run_report.Goals as goal

pub returns : goal.returns
returns g c = record {
  runs = runs_reply _ c.report_reply-reply.result c.give.result _ _ _ _ _ _ _ _ _ _ c.report_reply-reply.ensures.answers c.report_reply-reply.ensures.status
      c.report_reply-reply.ensures.same c.report_reply-reply.ensures.cause c.give.ensures;
}
