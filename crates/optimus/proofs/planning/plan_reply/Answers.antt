use Rattle.std.proofs.Common.{Ok}
use Rattle.optimus.proofs.Replies.{model_fault, small_fault, cause_of_fault, cause_of_answer}
use Rattle.optimus.proofs.planning.plan_reply.Goals as goal

pub returns-in-Err-clause-answers : goal.returns-in-Err-clause-answers
returns-in-Err-clause-answers g c =
    model_fault (g.S.Shelf.files c.args.shelf.now) c.args.folder.now _ c.in-Err.fault c.reply_to_fault.result c.in-Err.ensures.model c.reply_to_fault.ensures

pub returns-in-Err-clause-status : goal.returns-in-Err-clause-status
returns-in-Err-clause-status g c = small_fault c.in-Err.fault c.reply_to_fault.result c.reply_to_fault.ensures

pub returns-in-Err-clause-cause : goal.returns-in-Err-clause-cause
returns-in-Err-clause-cause g c = cause_of_fault c.in-Err.fault c.reply_to_fault.result _ _ c.reply_to_fault.ensures c.in-Err.ensures.cause

pub returns-in_ok-plan_model-in-Ok-clause-answers : goal.returns-in_ok-plan_model-in-Ok-clause-answers
returns-in_ok-plan_model-in-Ok-clause-answers g c =
    record { model = Ok c.in-Ok.problem; model_is = c.in-Ok.ensures.model; answers = c.in_ok-plan_model-in-Ok.ensures.plans }

pub returns-in_ok-plan_model-in-Ok-clause-cause : goal.returns-in_ok-plan_model-in-Ok-clause-cause
returns-in_ok-plan_model-in-Ok-clause-cause g c = cause_of_answer _ _ _ c.in-Ok.ensures.cause.later
