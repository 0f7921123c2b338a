use Rattle.std.proofs.Common.{arith}
use Rattle.std.proofs.lemmas.Int.{ints}
use Rattle.opt_network.proofs.Heads.{heads_within}
use Rattle.opt_rows.proofs.handout_rows.heads.Goals as goal

pub returns-clause-range : goal.returns-clause-range
returns-clause-range c =
    let within = heads_within c.args.tables.now c.requires c.args.spot.place c.args.basket c.args.spot.month in
    record { above = omega (arith, ints, within.above, within.below, c.heads_at.ensures); below = omega (arith, ints, within.above, within.below, c.heads_at.ensures) }
