use Rattle.std.proofs.Common.{◌≡◌, take}
use Rattle.opt_sums.specs.Entries.{weighted_sum}
use Rattle.opt_system.specs.Systems.{row_at}
use Rattle.opt_bound.proofs.lower.weighted_right_hand_side.Given as goal

abbrev pub invariant-loop-entry : goal.invariant-loop-entry
invariant-loop-entry l = l.sum ≡ weighted_sum (take l.entry-index l.entry-items) (λ i. (row_at l.system.rows i).right_hand_side)
