use Rattle.std.proofs.Common.{ℕ, ℤ, ◌<◌, get_or}
use Rattle.opt_frac.specs.Equations.{MayStand}
use Rattle.opt_frac.proofs.solved.may_all_stand.Given as goal

abbrev pub invariant-loop-term : goal.invariant-loop-term
invariant-loop-term l = (k : ℕ) (d : ℕ × ℤ) → k < l.term-index → MayStand l.basic (get_or l.terms k d)
