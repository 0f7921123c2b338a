use Rattle.optimus.proofs.ReportPuts.{written_by}
use Rattle.optimus.proofs.reporting.written_reply.Goals as goal

pub returns : goal.returns
returns c = λ t plan are.
    written_by c.args.folder.now t plan c.args.reports are _ _ _ _ _ c.new-reply.ensures c.in_ok-add_sites.ensures c.in_ok-add_costs.ensures c.in_ok-add_basket.ensures
    c.in_ok-print.ensures.ok
