use Rattle.std.proofs.Common.{◌≡◌, map, pos}
use Rattle.std.specs.List.{range_with_len}
use Rattle.opt_simplex.specs.Variables.{resting}
use Rattle.opt_simplex.proofs.point.resting_values.Given as goal

abbrev pub invariant-loop-j : goal.invariant-loop-j
invariant-loop-j l = l.point.items ≡ map (λ j. (resting l.variables l.at_high j, pos 1)) (range_with_len 0 l.j)
