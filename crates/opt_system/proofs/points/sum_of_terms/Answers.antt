use Rattle.std.proofs.Common.{◌+◌, pos, arith}
use Rattle.std.proofs.lemmas.Int.{ints}
use Rattle.opt_sums.specs.Sums.{at}
use Rattle.opt_sums.proofs.EntryLemmas.{weighted_sum-take}
use Rattle.opt_system.proofs.Sizes.{size_dot-take}
use Rattle.opt_system.proofs.points.sum_of_terms.Goals as goal

pub overflow_add-sum : goal.overflow_add-sum
overflow_add-sum c =
    omega (arith, ints, c.loop-term.invariant, c.term_value-sum.ensures, weighted_sum-take c.args.terms.now c.loop-term.term-index (0, pos 0) (at c.args.x.now) c.loop-term-test.true, size_dot-take c.args.terms.now c.args.x.now (c.loop-term.term-index + 1) c.requires.small c.requires.few)

pub loop-term-preserved : goal.loop-term-preserved
loop-term-preserved c =
    omega (arith, ints, c.loop-term.invariant, c.term_value-sum.ensures, weighted_sum-take c.args.terms.now c.loop-term.term-index (0, pos 0) (at c.args.x.now) c.loop-term-test.true, size_dot-take c.args.terms.now c.args.x.now (c.loop-term.term-index + 1) c.requires.small c.requires.few)
