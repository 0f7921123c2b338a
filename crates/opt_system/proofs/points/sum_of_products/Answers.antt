use Rattle.std.proofs.Common.{◌+◌, ◌^◌, ◌*ℤ◌, arith}
use Rattle.std.proofs.lemmas.Int.{ints}
use Rattle.opt_sums.specs.Sums.{at}
use Rattle.opt_sums.proofs.Ring.{size_mul}
use Rattle.opt_sums.proofs.SumLemmas.{sum_to-more, size_sum_to}
use Rattle.opt_system.proofs.points.sum_of_products.Goals as goal

pub overflow_add-sum : goal.overflow_add-sum
overflow_add-sum c =
    omega (arith, ints, c.loop-j.invariant, c.product_at-sum.ensures, sum_to-more c.loop-j.j (λ j. at c.args.costs.now j *ℤ at c.args.x.now j), size_sum_to (c.loop-j.j + 1) (λ j. at c.args.costs.now j *ℤ at c.args.x.now j) (2 ^ 51) (λ j h. omega (arith, size_mul (at c.args.costs.now j) (at c.args.x.now j), c.requires.small j (omega arith))))

pub loop-j-preserved : goal.loop-j-preserved
loop-j-preserved c =
    omega (arith, ints, c.loop-j.invariant, c.product_at-sum.ensures, sum_to-more c.loop-j.j (λ j. at c.args.costs.now j *ℤ at c.args.x.now j), size_sum_to (c.loop-j.j + 1) (λ j. at c.args.costs.now j *ℤ at c.args.x.now j) (2 ^ 51) (λ j h. omega (arith, size_mul (at c.args.costs.now j) (at c.args.x.now j), c.requires.small j (omega arith))))
