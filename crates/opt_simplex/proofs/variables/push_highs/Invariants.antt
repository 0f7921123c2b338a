use Rattle.std.proofs.Common.{◌≡◌, ◌++◌, map, take, Some}
use Rattle.opt_simplex.proofs.variables.push_highs.Given as goal

abbrev pub invariant-loop-value : goal.invariant-loop-value
invariant-loop-value l = l.highs.items ≡ l.initial.highs.items ++ map Some (take l.value-index l.values)
