use Rattle.std.proofs.Common.{ℕ, ◌<◌}
use Rattle.opt_system.specs.Rows.{Holds}
use Rattle.opt_system.specs.Systems.{row_at}
use Rattle.opt_system.proofs.system.System.first_broken.Given as goal

abbrev pub invariant-loop-i : goal.invariant-loop-i
invariant-loop-i l = (k : ℕ) → k < l.i → Holds (row_at l.self.rows k) l.x
