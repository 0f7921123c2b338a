use Rattle.optimus.proofs.Outcomes.{plans_outcome, small_outcome}
use Rattle.optimus.proofs.planning.plan_model.Goals as goal

pub returns-clause-plans : goal.returns-clause-plans
returns-clause-plans c =
    plans_outcome c.args.folder.now c.args.problem.now c.in_ok-outcome.outcome c.reply_to_outcome.result c.reply_to_outcome.ensures c.in_ok-outcome.ensures.proved
    c.in_ok-outcome.ensures.guided c.in_ok-outcome.ensures.readable

pub returns-clause-status : goal.returns-clause-status
returns-clause-status c = small_outcome c.args.folder.now c.args.problem.now c.in_ok-outcome.outcome c.reply_to_outcome.result c.reply_to_outcome.ensures
