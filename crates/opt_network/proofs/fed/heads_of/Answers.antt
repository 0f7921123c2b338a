use Rattle.std.proofs.Common.{arith}
use Rattle.std.proofs.lemmas.Int.{ints}
use Rattle.opt_network.proofs.Heads.{heads_within}
use Rattle.opt_network.proofs.fed.heads_of.Goals as goal

pub returns-clause-low : goal.returns-clause-low
returns-clause-low c =
    let within = heads_within c.args.tables.now c.requires c.args.place c.args.basket c.args.month in
    omega (arith, ints, within.above, c.heads_at.ensures)

pub returns-clause-high : goal.returns-clause-high
returns-clause-high c =
    let within = heads_within c.args.tables.now c.requires c.args.place c.args.basket c.args.month in
    omega (arith, ints, within.below, c.heads_at.ensures)
