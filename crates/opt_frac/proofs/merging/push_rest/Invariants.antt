use Rattle.std.proofs.Common.{◌≡◌, ◌+◌, ◌-◌, ◌≤◌, ◌++◌, length}
use Rattle.std.specs.Vec.{vec_len, vec_capacity}
use Rattle.opt_frac.specs.Divisors.{all_fit}
use Rattle.opt_frac.specs.Merging.{rest_of}
use Rattle.opt_frac.proofs.MergeLemmas.{Keeps}
use Rattle.opt_frac.proofs.merging.push_rest.Given as goal

abbrev pub invariant-loop-i : goal.invariant-loop-i
invariant-loop-i l =
    let all = rest_of l.multiple.factor l.col l.multiple.terms.now l.from in
    record {
      keeps : Keeps l.sums.items (rest_of l.multiple.factor l.col l.multiple.terms.now l.i) (l.initial.sums.items ++ all) (all_fit all);
      room : vec_len l.sums + (length l.multiple.terms.now - l.i) ≤ vec_len l.initial.sums + (length l.multiple.terms.now - l.from);
      capacity : vec_capacity l.sums ≡ vec_capacity l.initial.sums;
    }
