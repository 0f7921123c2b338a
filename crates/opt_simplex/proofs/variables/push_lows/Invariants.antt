use Rattle.std.proofs.Common.{◌≡◌, ◌++◌, take}
use Rattle.opt_simplex.proofs.variables.push_lows.Given as goal

abbrev pub invariant-loop-value : goal.invariant-loop-value
invariant-loop-value l = l.lows.items ≡ l.initial.lows.items ++ take l.value-index l.values
