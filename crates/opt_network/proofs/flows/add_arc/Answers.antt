use Rattle.std.proofs.Common.{◌<◌, length, ap, arith, sym, ◌∙◌}
use Rattle.opt_model.specs.declared.quantity.Quantity.TheVariants.{Ship}
use Rattle.opt_network.specs.Counts.{month_count, arrives}
use Rattle.opt_network.proofs.Lengths.{none_listed}
use Rattle.opt_network.proofs.RecordLists.{number_step}
use Rattle.opt_network.proofs.flows.add_arc.Goals as goal

pub loop-commodity-preserved : goal.loop-commodity-preserved
loop-commodity-preserved c =
    let lt : c.loop-commodity.commodity < length c.args.tables.now.commodities = omega (arith, ap length c.commodities-commodity-end.ensures, c.loop-commodity-test.true) in
    number_step _ _ _ _ c.args.tables.now.commodities _ lt c.loop-commodity.invariant c.in_ok-add_ship_months.ensures

pub returns-then-departure_months-eq0 : goal.returns-then-departure_months-eq0
returns-then-departure_months-eq0 c = none_listed c.args.tables.now (arrives c.args.tables.now.settings.months c.args.arc.now) (Ship c.args.number) c.args.list.now.items (ap (λ n. month_count n (arrives n c.args.arc.now)) (sym (c.months.ensures ∙ ap (λ s. s.months) c.settings.ensures.value)) ∙ (sym c.departure_months.ensures.count ∙ c.if-departure_months-eq0.true))
