use Rattle.std.proofs.Common.{◌<◌, All, take}
use Rattle.opt_frac.proofs.turning.place_of.Given as goal

abbrev pub invariant-loop-i : goal.invariant-loop-i
invariant-loop-i l = All (λ e. e.0 < l.variable) (take l.i l.terms)
