use Rattle.std.proofs.Common.{◌-◌, length}
use Rattle.opt_search.proofs.SearchLoop.{Searches}
use Rattle.opt_search.proofs.branch_and_bound.search.Given as goal

abbrev pub invariant-loop-state : goal.invariant-loop-state
invariant-loop-state g l =
    Searches (g.G.Guide.may_weigh l.fn.guide) (g.G.Guide.may_weigh l.guide) (g.G.Guide.may_try l.fn.guide) (g.G.Guide.may_try l.guide)
    (g.G.Guide.may_cut l.fn.guide) (g.G.Guide.may_cut l.guide) l.task.system.now l.task.gap l.limit l.state

abbrev pub decreases-loop-state : goal.decreases-loop-state
decreases-loop-state g l = l.limit - length l.state.tree.nodes
