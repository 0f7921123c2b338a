-- the terms so far and the sums that are left
use Rattle.std.proofs.Common.{◌≡◌, ◌++◌, ◌^◌, ◌<◌, All, unsigned_abs}
use Rattle.opt_rows.specs.Gathering.{without_zeros}
use Rattle.opt_rows.proofs.sums.terms_of.Given as goal

abbrev pub invariant-loop-number : goal.invariant-loop-number
invariant-loop-number l = (l.terms.items ++ without_zeros l.number-iterator ≡ without_zeros l.sums.entries) × All (λ e. unsigned_abs e.1 < 2 ^ 63) l.number-iterator
