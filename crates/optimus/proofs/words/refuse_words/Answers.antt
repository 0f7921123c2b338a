use Rattle.std.proofs.Common.{◌≤◌, sym, subst, arith}
use Rattle.opt_reply.specs.Answer.{Answer}
use Rattle.optimus.proofs.Replies.{runs_at_once, memory_at_once}
use Rattle.optimus.proofs.words.refuse_words.Goals as goal

pub deliver-requires : goal.deliver-requires
deliver-requires g c = subst (λ (a : Answer). a.status ≤ 3) (sym c.in-Ok.ensures) (omega arith)

pub returns-in-Ok : goal.returns-in-Ok
returns-in-Ok g c =
    let few : c.in-Ok.reply.status ≤ 3 = subst (λ (a : Answer). a.status ≤ 3) (sym c.in-Ok.ensures) (omega arith) in
    record { runs = runs_at_once _ c.in-Ok.reply _ _ _ _ _ c.in-Ok.ensures few c.deliver.ensures }

pub returns-in-Err : goal.returns-in-Err
returns-in-Err g c = record { runs = memory_at_once _ _ _ }
