use Rattle.std.proofs.Common.{◌≡◌, [], replicate}
use Rattle.opt_simplex.proofs.columns.no_positions.Given as goal

abbrev pub invariant-loop : goal.invariant-loop
invariant-loop l = l.columns.items ≡ replicate l.counter []
