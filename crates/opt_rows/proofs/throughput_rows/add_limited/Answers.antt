use Rattle.std.proofs.Common.{◌∙◌, arith}
use Rattle.opt_rows.proofs.throughput_rows.add_limited.Goals as goal

pub arrivals-requires : goal.arrivals-requires
arrivals-requires c = omega (arith, c.requires.network.arrivals.each, c.requires.place)

pub add_months-requires-clause-arrivals : goal.add_months-requires-clause-arrivals
add_months-requires-clause-arrivals c = c.arrivals.ensures ∙ c.requires.network.arrivals.filled c.args.place c.requires.place
