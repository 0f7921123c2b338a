use Rattle.std.proofs.Common.{ap, sym}
use Rattle.optimus.specs.Auditing.{status_with}
use Rattle.optimus.proofs.Breaches.{status_some}
use Rattle.optimus.proofs.auditing.status_with.Goals as goal

pub returns-then-is_empty : goal.returns-then-is_empty
returns-then-is_empty c = sym (ap status_with (c.is_empty.ensures.0 c.if-is_empty.true))

pub returns-else-is_empty : goal.returns-else-is_empty
returns-else-is_empty c =
    sym (status_some c.args.broken.now (λ none. let t = c.is_empty.ensures.1 none in let f = c.if-is_empty.false in cc))
