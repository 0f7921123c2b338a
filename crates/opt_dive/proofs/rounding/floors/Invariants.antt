use Rattle.std.proofs.Common.{◌≡◌, map, take}
use Rattle.opt_simplex.specs.Guide.{floor_of}
use Rattle.opt_dive.proofs.rounding.floors.Given as goal

abbrev pub invariant-loop-j : goal.invariant-loop-j
invariant-loop-j l = l.values.items ≡ map floor_of (take l.j l.point)
