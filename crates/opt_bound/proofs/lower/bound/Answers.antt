use Rattle.std.proofs.Common.{◌≡◌, ◌+◌, ◌*◌, ◌^◌, ◌≤◌, ◌+ℤ◌, ap, sym, ◌∙◌, arith, unsigned_abs, length}
use Rattle.std.proofs.lemmas.Int.{ints}
use Rattle.opt_sums.specs.Sums.{sum_to}
use Rattle.opt_sums.proofs.SumLemmas.{sum_to-more}
use Rattle.opt_bound.specs.Bound.{right_hand_side_of, least_of, bound_of}
use Rattle.opt_bound.proofs.BoundSizes.{size_bound}
use Rattle.opt_bound.proofs.Duality.{weak_duality}
use Rattle.opt_system.specs.Systems.{IsLimited}
use Rattle.opt_bound.proofs.PointLaws.{bound_of-point}
use Rattle.opt_bound.proofs.lower.bound.Goals as goal

-- with one quantity more the sum is still small
small : (c : goal.After-least_part-sum) → unsigned_abs (right_hand_side_of c.args.system.now c.args.mult.now +ℤ sum_to (c.loop-j.j + 1) (least_of c.args.system.now c.args.range.now c.args.mult.now)) ≤ 2 ^ 120 + 2 ^ 107 * 282144
small c =
    size_bound c.args.system.now c.args.range.now c.args.mult.now (c.loop-j.j + 1) c.quantities-quantities.ensures.limited c.weighted_right_hand_side-sum.ensures.proper c.requires.within c.least_part-sum.ensures.ordered c.requires.named (omega (arith, c.quantities-quantities.ensures.count))

-- and is the sum with that quantity
more : (c : goal.After-least_part-sum) → c.loop-j.sum +ℤ c.least_part-sum.result ≡ right_hand_side_of c.args.system.now c.args.mult.now +ℤ sum_to (c.loop-j.j + 1) (least_of c.args.system.now c.args.range.now c.args.mult.now)
more c =
    omega (arith, ints, c.loop-j.invariant.0, c.loop-j.sum-is, c.least_part-sum.ensures.value, sum_to-more c.loop-j.j (least_of c.args.system.now c.args.range.now c.args.mult.now))

pub overflow_add-sum : goal.overflow_add-sum
overflow_add-sum c = omega (arith, ints, c.loop-j.sum-is, more c, small c)

pub loop-j-preserved : goal.loop-j-preserved
loop-j-preserved c =
    (omega (arith, ints, c.loop-j.sum-is, more c, small c), omega (arith, ints, c.loop-j.sum-is, more c, small c))

-- the sum at the end is the bound
whole : (c : goal.After-loop-j) → c.loop-j.sum ≡ bound_of c.args.system.now c.args.range.now c.args.mult.now
whole c =
    let all : c.loop-j.j ≡ length c.args.system.now.cost = omega (arith, c.quantities-quantities.ensures.count, c.loop-j.auto.j-end, c.loop-j-test.false) in
    sym c.loop-j.sum-is ∙ c.loop-j.invariant.0 ∙ ap (λ n. right_hand_side_of c.args.system.now c.args.mult.now +ℤ sum_to n (least_of c.args.system.now c.args.range.now c.args.mult.now)) all

pub returns-clause-value : goal.returns-clause-value
returns-clause-value c = c.loop-j.sum-is ∙ whole c

pub returns-clause-small : goal.returns-clause-small
returns-clause-small c = omega (arith, c.loop-j.invariant.1)

pub returns-clause-law : goal.returns-clause-law
returns-clause-law c admissible x meets inside =
    rw (c.loop-j.sum-is ∙ whole c)
    (weak_duality c.args.system.now c.args.range.now c.args.mult.now x c.quantities-quantities.ensures.limited.small.cost_each admissible meets inside)

pub returns-clause-point : goal.returns-clause-point
returns-clause-point c one =
    let limited : IsLimited c.args.system.now = c.quantities-quantities.ensures.limited in
    c.loop-j.sum-is ∙ whole c
    ∙ bound_of-point c.args.system.now c.args.range.now c.args.mult.now one (omega (arith, c.requires.within.same_length, limited.small.cost_each))
