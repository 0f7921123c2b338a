use Rattle.std.proofs.Common.{◌+◌, ◌-◌, length}
use Rattle.opt_simplex.proofs.ColumnSteps.{IsOnTheWay}
use Rattle.opt_simplex.proofs.columns.Columns.change.Given as goal

abbrev pub invariant-loop-x : goal.invariant-loop-x
invariant-loop-x l = IsOnTheWay l.position l.olds l.news l.initial.self l.self l.x l.y

abbrev pub decreases-loop-x : goal.decreases-loop-x
decreases-loop-x l = (length l.olds - l.x) + (length l.news - l.y)
