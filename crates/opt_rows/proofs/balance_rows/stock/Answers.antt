use Rattle.std.proofs.Common.{arith}
use Rattle.std.proofs.lemmas.Int.{ints}
use Rattle.opt_rows.proofs.TableRanges.{stock_within}
use Rattle.opt_rows.proofs.balance_rows.stock.Goals as goal

pub returns-clause-range : goal.returns-clause-range
returns-clause-range c =
    let within = stock_within c.args.tables.now c.requires c.args.spot.place c.args.spot.commodity c.args.spot.month in
    record { above = omega (arith, ints, within.above, within.below, c.stock_at.ensures); below = omega (arith, ints, within.above, within.below, c.stock_at.ensures) }
