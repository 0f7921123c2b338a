use Rattle.optimus.proofs.Breaches.{breaches_by, few_breaches, feasible_breaches}
use Rattle.optimus.proofs.auditing.breaches.Goals as goal

pub broken_rows-requires : goal.broken_rows-requires
broken_rows-requires c = rw c.system.ensures.system c.requires

pub returns-clause-value : goal.returns-clause-value
returns-clause-value c =
    breaches_by c.args.problem.now c.system.result.now c.args.point.now c.system.ensures.system c.broken_rows.result c.broken_rows.ensures.of_model

pub returns-clause-few : goal.returns-clause-few
returns-clause-few c =
    few_breaches c.args.problem.now c.system.result.now c.args.point.now c.system.ensures.system c.broken_rows.result c.broken_rows.ensures.value

pub returns-clause-feasible : goal.returns-clause-feasible
returns-clause-feasible c =
    feasible_breaches c.args.problem.now c.system.result.now c.args.point.now c.system.ensures.system c.broken_rows.result c.system.ensures.law c.requires
    c.broken_rows.ensures.value
