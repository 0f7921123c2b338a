use Rattle.std.proofs.Common.{◌≡◌, ◌≤◌, ◌*◌, length, take, sum_by}
use Rattle.opt_simplex.proofs.tableau.count_terms.Given as goal

abbrev pub invariant-loop-equation : goal.invariant-loop-equation
invariant-loop-equation l =
    record {
      count : l.count ≡ sum_by (λ e. length e.terms) (take l.equation-index l.equations);
      few : l.count ≤ l.equation-index * 40000;
    }
