use Rattle.std.proofs.Common.{◌≡◌, ◌≤◌, length, drop}
use Rattle.opt_simplex.specs.Variables.{resting}
use Rattle.opt_simplex.specs.Choice.{point_of}
use Rattle.opt_simplex.proofs.point.point.Given as goal

abbrev pub invariant-loop-i : goal.invariant-loop-i
invariant-loop-i l =
    record {
      within : l.i ≤ length l.equations;
      made : l.point.items ≡ point_of l.variables.quantities (resting l.variables l.at_high) (drop l.i l.equations) (drop l.i l.values);
    }

abbrev pub decreases-loop-i : goal.decreases-loop-i
decreases-loop-i l = l.i
