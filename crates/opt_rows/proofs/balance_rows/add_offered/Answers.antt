use Rattle.std.proofs.Common.{◌∙◌, arith}
use Rattle.opt_rows.proofs.balance_rows.add_offered.Goals as goal

pub arrivals-requires : goal.arrivals-requires
arrivals-requires c = omega (arith, c.requires.network.arrivals.each, c.requires.place)

pub departures-requires : goal.departures-requires
departures-requires c = omega (arith, c.requires.network.departures.each, c.requires.place)

pub add_commodities-requires-clause-flows : goal.add_commodities-requires-clause-flows
add_commodities-requires-clause-flows c = record {
  offers = c.requires.offers;
  arrivals = c.arrivals.ensures ∙ c.requires.network.arrivals.filled c.args.place c.requires.place;
  departures = c.departures.ensures ∙ c.requires.network.departures.filled c.args.place c.requires.place;
}
