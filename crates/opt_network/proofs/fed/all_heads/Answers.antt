use Rattle.std.proofs.Common.{◌≡◌, ◌+◌, ◌<◌, ◌+ℤ◌, length, ap, arith}
use Rattle.std.proofs.lemmas.Int.{ints}
use Rattle.opt_model.specs.Tables.{heads_at}
use Rattle.opt_network.proofs.Heads.{heads_below, heads_more}
use Rattle.opt_network.proofs.fed.all_heads.Goals as goal

pub overflow_cast-basket : goal.overflow_cast-basket
overflow_cast-basket c = omega (arith, ap length c.baskets-basket-end.ensures, c.requires.few_baskets, c.loop-basket-test.true)

pub overflow_add-heads : goal.overflow_add-heads
overflow_add-heads c =
    omega (arith, ints, ap length c.baskets-basket-end.ensures, c.requires.few_baskets, c.loop-basket-test.true, c.loop-basket.invariant.low, c.loop-basket.invariant.high, c.heads_of-heads.ensures.low, c.heads_of-heads.ensures.high)

pub loop-basket-preserved : goal.loop-basket-preserved
loop-basket-preserved c =
    let t = c.args.tables.now in
    let i = c.loop-basket.basket in
    let lt : i < length t.baskets = omega (arith, ap length c.baskets-basket-end.ensures, c.loop-basket-test.true) in
    let more : heads_below t c.args.place c.args.month (i + 1) ≡ heads_below t c.args.place c.args.month i +ℤ heads_at t c.args.place i c.args.month = heads_more t c.args.place c.args.month i lt in
    record {
      sum = omega (arith, ints, more, c.loop-basket.invariant.sum, c.loop-basket.invariant.low, c.loop-basket.invariant.high, c.heads_of-heads.ensures.value, c.heads_of-heads.ensures.low, c.heads_of-heads.ensures.high, lt, c.requires.few_baskets);
      low = omega (arith, ints, c.loop-basket.invariant.low, c.loop-basket.invariant.high, c.heads_of-heads.ensures.low, c.heads_of-heads.ensures.high, lt, c.requires.few_baskets);
      high = omega (arith, ints, c.loop-basket.invariant.low, c.loop-basket.invariant.high, c.heads_of-heads.ensures.low, c.heads_of-heads.ensures.high, lt, c.requires.few_baskets);
    }

pub returns-clause-high : goal.returns-clause-high
returns-clause-high c = omega (arith, ints, ap length c.baskets-basket-end.ensures, c.requires.few_baskets, c.loop-basket.invariant.high)
