use Rattle.std.proofs.Common.{◌≡◌, ◌≤◌, length, Ok, ap, arith}
use Rattle.optimus.proofs.Replies.{file_fault, small_fault, cause_of_fault}
use Rattle.optimus.proofs.checking.check_model.Goals as goal

pub returns-in-Err-clause-answers : goal.returns-in-Err-clause-answers
returns-in-Err-clause-answers g c =
    file_fault (g.S.Shelf.files c.args.shelf.now) c.args.folder.now _ _ _ c.in-Err.fault c.reply_to_fault.result c.in-Err.ensures.found c.reply_to_fault.ensures

pub returns-in-Err-clause-status : goal.returns-in-Err-clause-status
returns-in-Err-clause-status g c = small_fault c.in-Err.fault c.reply_to_fault.result c.reply_to_fault.ensures

pub returns-in-Err-clause-cause : goal.returns-in-Err-clause-cause
returns-in-Err-clause-cause g c = cause_of_fault c.in-Err.fault c.reply_to_fault.result _ _ c.reply_to_fault.ensures c.in-Err.ensures.cause

pub check_text-requires : goal.check_text-requires
check_text-requires g c =
    let few : length c.in-Ok.bytes ≤ 536870912 = c.in-Ok.ensures.at_most in
    let same : length c.as_slice.result.now ≡ length c.in-Ok.bytes = ap length c.as_slice.ensures in
    omega (arith, few, same)

pub returns-in_ok-check_text-in-Ok-clause-answers : goal.returns-in_ok-check_text-in-Ok-clause-answers
returns-in_ok-check_text-in-Ok-clause-answers g c = record {
  found = Ok c.in-Ok.bytes;
  found_is = c.in-Ok.ensures.found;
  answers = rw c.as_slice.ensures at c.in_ok-check_text-in-Ok.ensures.checks;
}
