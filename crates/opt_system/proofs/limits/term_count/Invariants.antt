use Rattle.std.proofs.Common.{◌≡◌, ◌*◌, ◌≤◌, take}
use Rattle.opt_system.specs.Systems.{term_count as count_of_terms}
use Rattle.opt_system.proofs.limits.term_count.Given as goal

abbrev pub invariant-loop-row : goal.invariant-loop-row
invariant-loop-row l = (l.count ≡ count_of_terms (take l.row-index l.rows)) × (l.count ≤ 20000 * l.row-index)
