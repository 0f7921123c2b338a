use Rattle.std.proofs.Common.{◌≤◌, arith}
use Rattle.std.proofs.lemmas.Result.{IfOk-weaker}
use Rattle.opt_simplex.specs.declared.limits.TheConstants.{COUNT_LIMIT, FILL_LIMIT}
use Rattle.opt_simplex.proofs.pivot.treat.Goals as goal

pub returns-clause-few : goal.returns-clause-few
returns-clause-few c =
    IfOk-weaker c.count_within_fill.result (λ count. count ≤ FILL_LIMIT) (λ count. count ≤ COUNT_LIMIT) (λ count h. omega arith) c.count_within_fill.ensures.few
