use Rattle.std.proofs.lemmas.List.Elements.{All-push}
use Rattle.opt_system.specs.Rows.{IsEven}
use Rattle.opt_system.proofs.rows.RowList.push.Goals as goal

pub invariant_of-self : goal.invariant_of-self
invariant_of-self c = rw c.in_err-push.ensures.items c.self.invariant

pub invariant_of-self-2 : goal.invariant_of-self-2
invariant_of-self-2 c =
    rw c.in_ok-push.ensures.items
    (All-push IsEven _ _ c.self.invariant
    (record { rising = rw c.in_ok-terms.ensures c.requires.rising; no_zero = rw c.in_ok-terms.ensures c.requires.no_zero }))
