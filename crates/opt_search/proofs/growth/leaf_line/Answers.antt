use Rattle.opt_search.specs.State.{known_in}
use Rattle.opt_search.proofs.BoxSteps.{closing_several}
use Rattle.opt_search.proofs.growth.leaf_line.Goals as goal

pub returns-else-is_one_point-clause-line : goal.returns-else-is_one_point-clause-line
returns-else-is_one_point-clause-line c =
    closing_several c.args.task.now.system.now (known_in c.args.task.now.gap c.args.state.now) c.args.range.now c.args.mult c.is_one_point.result c.requires.admissible c.is_one_point.ensures c.if-is_one_point.false
