use Rattle.std.proofs.Common.{◌∙◌}
use Rattle.optimus.proofs.Replies.{model_answered, model_fault, small_fault, cause_of_fault, cause_after}
use Rattle.optimus.proofs.checking.check_reply.Goals as goal

pub returns-in-Err-clause-answers : goal.returns-in-Err-clause-answers
returns-in-Err-clause-answers g c =
    model_fault (g.S.Shelf.files c.args.shelf.now) c.args.folder.now _ c.in-Err.fault c.reply_to_fault.result c.in-Err.ensures.model c.reply_to_fault.ensures

pub returns-in-Err-clause-status : goal.returns-in-Err-clause-status
returns-in-Err-clause-status g c = small_fault c.in-Err.fault c.reply_to_fault.result c.reply_to_fault.ensures

pub returns-in-Err-clause-cause : goal.returns-in-Err-clause-cause
returns-in-Err-clause-cause g c = cause_of_fault c.in-Err.fault c.reply_to_fault.result _ _ c.reply_to_fault.ensures c.in-Err.ensures.cause

pub returns-in-Ok-clause-answers : goal.returns-in-Ok-clause-answers
returns-in-Ok-clause-answers g c =
    let told = g.S.Shelf.files c.args.shelf.now in
    model_answered told c.args.folder.now _ c.in-Ok.problem c.check_model.result c.in-Ok.ensures.model (rw c.in-Ok.ensures.same at c.check_model.ensures.answers)

pub returns-in-Ok-clause-same : goal.returns-in-Ok-clause-same
returns-in-Ok-clause-same g c = c.check_model.ensures.same ∙ c.in-Ok.ensures.same

pub returns-in-Ok-clause-cause : goal.returns-in-Ok-clause-cause
returns-in-Ok-clause-cause g c = cause_after _ _ _ _ c.in-Ok.ensures.cause.later c.check_model.ensures.cause
