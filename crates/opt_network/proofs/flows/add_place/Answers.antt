use Rattle.std.proofs.Common.{◌<◌, length, ap, arith, sym, ◌∙◌}
use Rattle.opt_model.specs.declared.quantity.Quantity.TheVariants.{Feed}
use Rattle.opt_network.specs.Counts.{is_fed}
use Rattle.opt_network.proofs.Lengths.{none_listed}
use Rattle.opt_network.proofs.RecordLists.{number_step}
use Rattle.opt_network.proofs.flows.add_place.Goals as goal

pub loop-commodity-preserved : goal.loop-commodity-preserved
loop-commodity-preserved c =
    let lt : c.loop-commodity.commodity < length c.args.tables.now.commodities = omega (arith, ap length c.commodities-commodity-end.ensures, c.loop-commodity-test.true) in
    number_step _ _ _ _ c.args.tables.now.commodities _ lt c.loop-commodity.invariant c.in_ok-add_feed_months.ensures

pub returns-then-fed_months-eq0 : goal.returns-then-fed_months-eq0
returns-then-fed_months-eq0 c = none_listed c.args.tables.now (is_fed c.args.tables.now c.args.number c.args.place.now.kind) (Feed c.args.number) c.args.list.now.items (sym c.fed_months.ensures.count ∙ c.if-fed_months-eq0.true)
