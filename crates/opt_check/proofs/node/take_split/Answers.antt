use Rattle.opt_check.proofs.BoxSteps.{halves_within}
use Rattle.opt_check.proofs.node.take_split.Goals as goal

pub returns-clause-within : goal.returns-clause-within
returns-clause-within c =
    λ root all. halves_within root c.args.walk.now c.range.result.now c.enter.new.self c.args.cut.quantity c.args.cut.at c.range.ensures c.in_ok-enter.ensures.split c.in_ok-look_cut.ensures.ordered c.in_ok-look_cut.ensures.cut all
