use Rattle.std.proofs.Common.{ℕ, ℤ, ◌<◌, get_or}
use Rattle.opt_frac.proofs.solved.is_rising.Given as goal

abbrev pub invariant-loop-i : goal.invariant-loop-i
invariant-loop-i l = (k j : ℕ) (d : ℕ × ℤ) → k < j → j < l.i → (get_or l.terms k d).0 < (get_or l.terms j d).0
