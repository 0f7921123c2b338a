use Rattle.std.proofs.Common.{◌+◌, pos, take, unsigned_abs, ap, ◌∙◌, arith}
use Rattle.std.proofs.lemmas.Int.{ints}
use Rattle.opt_sums.specs.Entries.{weighted_sum}
use Rattle.opt_sums.proofs.EntryLemmas.{weighted_sum-take}
use Rattle.opt_system.specs.Systems.{row_at}
use Rattle.opt_bound.proofs.BoundSizes.{size_rights}
use Rattle.opt_bound.proofs.lower.weighted_right_hand_side.Goals as goal

pub overflow_add-sum : goal.overflow_add-sum
overflow_add-sum c =
    omega (arith, ints, c.loop-entry.invariant, c.right_hand_part-sum.ensures, weighted_sum-take c.entries-entry-items.result.now c.loop-entry.entry-index (0, pos 0) (λ i. (row_at c.args.system.now.rows i).right_hand_side) c.loop-entry-test.true, ap (λ es. weighted_sum (take (c.loop-entry.entry-index + 1) es) (λ i. (row_at c.args.system.now.rows i).right_hand_side)) c.entries-entry-items.ensures.value, size_rights c.args.system.now c.args.mult.now (c.loop-entry.entry-index + 1) c.requires.limited c.entries-entry-items.ensures.proper c.requires.named)

pub loop-entry-preserved : goal.loop-entry-preserved
loop-entry-preserved c =
    omega (arith, ints, c.loop-entry.invariant, c.right_hand_part-sum.ensures, weighted_sum-take c.entries-entry-items.result.now c.loop-entry.entry-index (0, pos 0) (λ i. (row_at c.args.system.now.rows i).right_hand_side) c.loop-entry-test.true, ap (λ es. weighted_sum (take (c.loop-entry.entry-index + 1) es) (λ i. (row_at c.args.system.now.rows i).right_hand_side)) c.entries-entry-items.ensures.value, size_rights c.args.system.now c.args.mult.now (c.loop-entry.entry-index + 1) c.requires.limited c.entries-entry-items.ensures.proper c.requires.named)

pub returns-clause-small : goal.returns-clause-small
returns-clause-small c =
    omega (arith, ap unsigned_abs (c.loop-entry.invariant ∙ ap (λ es. weighted_sum (take c.loop-entry.entry-index es) (λ i. (row_at c.args.system.now.rows i).right_hand_side)) c.entries-entry-items.ensures.value), size_rights c.args.system.now c.args.mult.now c.loop-entry.entry-index c.requires.limited c.entries-entry-items.ensures.proper c.requires.named)
