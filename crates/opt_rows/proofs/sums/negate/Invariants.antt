-- the terms so far
use Rattle.std.proofs.Common.{◌≡◌, take}
use Rattle.opt_rows.specs.Gathering.{other_sign}
use Rattle.opt_rows.proofs.sums.negate.Given as goal

abbrev pub invariant-loop-term : goal.invariant-loop-term
invariant-loop-term l = l.negated.items ≡ other_sign (take l.term-index l.terms)
