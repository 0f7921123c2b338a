use Rattle.std.proofs.Common.{ℕ, ◌<◌}
use Rattle.opt_sums.specs.Sums.{at}
use Rattle.opt_tables.specs.Facts.{IsFrom}
use Rattle.opt_report.proofs.within.is_within.Given as goal

-- the values so far lie in their ranges
abbrev pub invariant-loop-i : goal.invariant-loop-i
invariant-loop-i l = (j : ℕ) → j < l.i → IsFrom (at l.layout.lows j) (at l.layout.highs j) (at l.point j)
