use Rattle.std.proofs.Common.{◌≡◌, ◌+◌, pos, take, length, ap, sym, ◌∙◌, arith}
use Rattle.std.proofs.lemmas.Int.{ints}
use Rattle.std.proofs.Math.Seq.{take-length}
use Rattle.opt_sums.specs.Entries.{coef}
use Rattle.opt_sums.proofs.EntryLemmas.{weighted_sum-take}
use Rattle.opt_bound.proofs.BoundSizes.{part_reduced_cost, part_reduced_cost_fits, reduced_cost_is}
use Rattle.opt_bound.proofs.lower.reduced_cost.Goals as goal

pub overflow_sub-reduced_cost : goal.overflow_sub-reduced_cost
overflow_sub-reduced_cost c =
    omega (arith, ints, c.loop-term.invariant, c.part_of-reduced_cost.ensures, weighted_sum-take c.column-term-items.result.now c.loop-term.term-index (0, pos 0) (coef c.args.mult.now.entries) c.loop-term-test.true, ap (λ es. part_reduced_cost c.args.system.now c.args.mult.now c.args.j (take (c.loop-term.term-index + 1) es)) c.column-term-items.ensures.value, part_reduced_cost_fits c.args.system.now c.args.mult.now c.args.j (c.loop-term.term-index + 1) c.requires.limited c.requires.proper c.requires.quantity)

pub loop-term-preserved : goal.loop-term-preserved
loop-term-preserved c =
    omega (arith, ints, c.loop-term.invariant, c.part_of-reduced_cost.ensures, weighted_sum-take c.column-term-items.result.now c.loop-term.term-index (0, pos 0) (coef c.args.mult.now.entries) c.loop-term-test.true, ap (λ es. part_reduced_cost c.args.system.now c.args.mult.now c.args.j (take (c.loop-term.term-index + 1) es)) c.column-term-items.ensures.value, part_reduced_cost_fits c.args.system.now c.args.mult.now c.args.j (c.loop-term.term-index + 1) c.requires.limited c.requires.proper c.requires.quantity)

pub returns : goal.returns
returns c =
    let all : c.loop-term.term-index ≡ length c.column-term-items.result.now = omega (arith, c.loop-term.auto.term-index-end, c.loop-term-test.false) in
    c.loop-term.invariant
    ∙ ap (λ n. part_reduced_cost c.args.system.now c.args.mult.now c.args.j (take n c.column-term-items.result.now)) all
    ∙ ap (part_reduced_cost c.args.system.now c.args.mult.now c.args.j) (take-length c.column-term-items.result.now ∙ c.column-term-items.ensures.value)
    ∙ sym (reduced_cost_is c.args.system.now c.args.mult.now c.args.j)
