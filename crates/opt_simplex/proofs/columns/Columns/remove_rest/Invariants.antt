use Rattle.std.proofs.Common.{◌≡◌, ◌≤◌, ◌<◌, ◌++◌, ℕ, List, ℤ, pos, length, drop}
use Rattle.opt_sums.specs.Entries.{coef}
use Rattle.opt_frac.specs.Merging.{term_at}
use Rattle.opt_simplex.specs.Columns.{Follow}
use Rattle.opt_simplex.proofs.columns.Columns.remove_rest.Given as goal

abbrev pub invariant-loop-i : goal.invariant-loop-i
invariant-loop-i l =
    (kept : List (ℕ × ℤ)) → ((j : ℕ) → l.from ≤ j → j < length l.terms → coef kept (term_at l.terms j).0 ≡ pos 0)
    → Follow l.position (kept ++ drop l.from l.terms) (kept ++ drop l.i l.terms) l.initial.self l.self
