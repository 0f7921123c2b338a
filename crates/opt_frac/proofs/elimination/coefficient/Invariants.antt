use Rattle.std.proofs.Common.{◌≢◌, All, take}
use Rattle.opt_frac.proofs.elimination.coefficient.Given as goal

abbrev pub invariant-loop-term : goal.invariant-loop-term
invariant-loop-term l = All (λ e. e.0 ≢ l.variable) (take l.term-index l.terms)
