use Rattle.std.proofs.Common.{◌≡◌, take}
use Rattle.opt_sums.specs.Entries.{dot}
use Rattle.opt_system.proofs.points.sum_of_terms.Given as goal

abbrev pub invariant-loop-term : goal.invariant-loop-term
invariant-loop-term l = l.sum ≡ dot (take l.term-index l.terms) l.x
