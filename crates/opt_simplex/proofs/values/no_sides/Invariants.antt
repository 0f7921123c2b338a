use Rattle.std.proofs.Common.{◌≡◌, None, replicate}
use Rattle.opt_simplex.proofs.values.no_sides.Given as goal

abbrev pub invariant-loop : goal.invariant-loop
invariant-loop l = l.sides.items ≡ replicate l.counter None
