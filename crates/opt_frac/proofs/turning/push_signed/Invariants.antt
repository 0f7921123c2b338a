use Rattle.std.proofs.Common.{◌≡◌, ◌++◌, take}
use Rattle.opt_frac.specs.Elimination.{negated_if, without}
use Rattle.opt_frac.proofs.turning.push_signed.Given as goal

abbrev pub invariant-loop-term : goal.invariant-loop-term
invariant-loop-term l = l.pushed.items ≡ l.initial.pushed.items ++ negated_if l.negative (without l.col (take l.term-index l.terms))
