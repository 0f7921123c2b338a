use Rattle.std.proofs.Common.{rules, inr, refl}
use Rattle.opt_reply.proofs.Told.{told_by_some}
use Rattle.opt_reply.proofs.delivery.deliver.Goals as goal

pub returns-in-Err-Outside : goal.returns-in-Err-Outside
returns-in-Err-Outside g c = record {
  ends = λ differs _. absurd (differs refl);
  early = λ _. c.in-Err-Outside.ensures.err;
  outside = search rules;
  complete = search rules;
  later = c.in-Err-Outside.ensures.later;
  told = told_by_some _ _ _ c.in-Err-Outside.ensures.err;
}

pub returns-in-Err-OutOfMemory : goal.returns-in-Err-OutOfMemory
returns-in-Err-OutOfMemory g c = record {
  ends = λ _ differs. absurd (differs refl);
  early = λ _. c.in-Err-OutOfMemory.ensures.err;
  outside = search rules;
  complete = λ _. inr refl;
  later = c.in-Err-OutOfMemory.ensures.later;
  told = told_by_some _ _ _ c.in-Err-OutOfMemory.ensures.err;
}
