use Rattle.optimus.proofs.ReportPuts.{written_of}
use Rattle.optimus.proofs.reporting.reports_reply.Goals as goal

pub reports-requires-clause-layout : goal.reports-requires-clause-layout
reports-requires-clause-layout c = rw c.tables.ensures c.layout.ensures

pub reports-requires-clause-within : goal.reports-requires-clause-within
reports-requires-clause-within c = rw c.tables.ensures c.requires

pub returns : goal.returns
returns c =
    written_of c.args.folder.now c.args.problem.now c.tables.result.now c.args.point.now c.in_ok-reports.reports c.written_reply.result c.tables.ensures
    c.in_ok-reports.ensures c.written_reply.ensures
