use Rattle.std.proofs.Common.{◌≡◌, take}
use Rattle.std.specs.List.{enumerate_from}
use Rattle.opt_simplex.specs.Tableau.{not_zeros}
use Rattle.opt_simplex.proofs.start.cost_terms.Given as goal

abbrev pub invariant-loop-j : goal.invariant-loop-j
invariant-loop-j l = l.terms.items ≡ not_zeros (enumerate_from 0 (take l.j l.costs))
