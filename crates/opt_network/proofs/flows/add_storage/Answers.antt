use Rattle.std.proofs.Common.{◌<◌, length, ap, arith, sym, ◌∙◌}
use Rattle.opt_model.specs.declared.quantity.Quantity.TheVariants.{Keep}
use Rattle.opt_network.specs.Counts.{has_storage}
use Rattle.opt_network.proofs.Lengths.{none_listed, in_no_month}
use Rattle.opt_network.proofs.RecordLists.{number_step}
use Rattle.opt_network.proofs.flows.add_storage.Goals as goal

pub loop-commodity-preserved : goal.loop-commodity-preserved
loop-commodity-preserved c =
    let lt : c.loop-commodity.commodity < length c.args.tables.now.commodities = omega (arith, ap length c.commodities-commodity-end.ensures, c.loop-commodity-test.true) in
    number_step _ _ _ _ c.args.tables.now.commodities _ lt c.loop-commodity.invariant c.in_ok-add_keep_months.ensures

pub returns-then-not-has_storage : goal.returns-then-not-has_storage
returns-then-not-has_storage c = none_listed c.args.tables.now (λ m. has_storage c.args.place.now) (Keep c.args.number) c.args.list.now.items (in_no_month (has_storage c.args.place.now) c.args.tables.now.settings.months (sym c.has_storage.ensures ∙ c.if-not-has_storage.true))
