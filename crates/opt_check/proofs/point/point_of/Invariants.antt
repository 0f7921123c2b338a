use Rattle.std.proofs.Common.{◌≡◌, ℕ, ◌<◌, length, take}
use Rattle.opt_sums.specs.Sums.{at}
use Rattle.opt_sums.specs.Entries.{coef}
use Rattle.opt_check.proofs.point.point_of.Given as goal

abbrev pub invariant-loop-entry : goal.invariant-loop-entry
invariant-loop-entry l =
    (length l.x.items ≡ l.quantities) × ((k : ℕ) → k < l.quantities → at l.x.items k ≡ coef (take l.entry-index l.entries) k)
