use Rattle.std.proofs.Common.{◌≡◌, ◌<◌, ℕ, false}
use Rattle.opt_simplex.specs.Soundness.{fraction_at}
use Rattle.opt_simplex.specs.Guide.{is_fractional}
use Rattle.opt_simplex.proofs.fractional.first_fractional.Given as goal

abbrev pub invariant-loop-j : goal.invariant-loop-j
invariant-loop-j l = (k : ℕ) → k < l.j → is_fractional (fraction_at l.fractions k) ≡ false
