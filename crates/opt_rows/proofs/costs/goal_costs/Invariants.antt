use Rattle.std.proofs.Common.{◌≡◌, take, map}
use Rattle.opt_rows.specs.Costs.{unit_cost}
use Rattle.opt_rows.proofs.costs.goal_costs.Given as goal

abbrev pub invariant-loop-i : goal.invariant-loop-i
invariant-loop-i l = l.costs.items ≡ map (unit_cost l.tables l.goal) (take l.i l.layout.quantities)
