use Rattle.std.proofs.Common.{◌≡◌, ◌++◌, drop}
use Rattle.opt_frac.specs.Elimination.{negated_if}
use Rattle.opt_simplex.specs.Tableau.{at_rows}
use Rattle.opt_simplex.proofs.multipliers.row_entries.Given as goal

abbrev pub invariant-loop-term : goal.invariant-loop-term
invariant-loop-term l =
    l.entries.items ++ at_rows l.quantities (negated_if l.negative (drop l.term-index l.terms)) ≡ at_rows l.quantities (negated_if l.negative l.terms)
