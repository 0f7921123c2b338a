use Rattle.std.proofs.Common.{Ok}
use Rattle.optimus.proofs.Replies.{plan_fault, small_fault, cause_of_fault}
use Rattle.optimus.proofs.reporting.report_model.Goals as goal

pub returns-in-Err-clause-answers : goal.returns-in-Err-clause-answers
returns-in-Err-clause-answers g c =
    plan_fault (g.S.Shelf.files c.args.shelf.now) c.args.folder.now c.args.problem.now _ c.in-Err.fault c.reply_to_fault.result c.in-Err.ensures.plan
    c.reply_to_fault.ensures

pub returns-in-Err-clause-status : goal.returns-in-Err-clause-status
returns-in-Err-clause-status g c = small_fault c.in-Err.fault c.reply_to_fault.result c.reply_to_fault.ensures

pub returns-in-Err-clause-cause : goal.returns-in-Err-clause-cause
returns-in-Err-clause-cause g c = cause_of_fault c.in-Err.fault c.reply_to_fault.result _ _ c.reply_to_fault.ensures c.in-Err.ensures.cause

pub returns-in_ok-report_point-in-Ok-clause-answers : goal.returns-in_ok-report_point-in-Ok-clause-answers
returns-in_ok-report_point-in-Ok-clause-answers g c =
    record { plan = Ok c.in-Ok.point; plan_is = c.in-Ok.ensures.plan; answers = c.in_ok-report_point-in-Ok.ensures.reports }
