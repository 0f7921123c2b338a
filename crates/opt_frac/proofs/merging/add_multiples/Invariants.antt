use Rattle.std.proofs.Common.{◌+◌, ◌-◌, ◌≤◌, length}
use Rattle.std.specs.Vec.{vec_len, vec_capacity}
use Rattle.opt_frac.specs.Elimination.{merged_sum}
use Rattle.opt_frac.specs.Merging.{rest_of, sums_fit}
use Rattle.opt_frac.proofs.StepLemmas.{Remains}
use Rattle.opt_frac.proofs.merging.add_multiples.Given as goal

abbrev pub invariant-loop-i : goal.invariant-loop-i
invariant-loop-i l =
    let first = rest_of l.kept.factor l.col l.kept.terms.now 0 in
    let second = rest_of l.added.factor l.col l.added.terms.now 0 in
    record {
      remains : Remains l.kept.factor l.added.factor l.col l.kept.terms.now l.added.terms.now l.sums.items (merged_sum first second) (sums_fit first second) l.i l.k;
      room : vec_len l.sums + (length l.kept.terms.now - l.i) + (length l.added.terms.now - l.k) ≤ vec_capacity l.sums;
    }

abbrev pub decreases-loop-i : goal.decreases-loop-i
decreases-loop-i l = (length l.kept.terms.now - l.i) + (length l.added.terms.now - l.k)
