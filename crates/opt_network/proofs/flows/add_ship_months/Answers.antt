use Rattle.std.proofs.Common.{◌+◌, ap, ◌∙◌}
use Rattle.opt_network.specs.Counts.{arrives}
use Rattle.opt_model.specs.declared.quantity.Quantity.TheVariants.{Ship}
use Rattle.opt_network.proofs.MonthLists.{test_step}
use Rattle.opt_network.proofs.flows.add_ship_months.Goals as goal

pub loop-earlier-preserved : goal.loop-earlier-preserved
loop-earlier-preserved c =
    test_step c.args.list.now.items c.loop-earlier.list.items c.add_if.new.list.items (arrives c.args.tables.now.settings.months c.args.arc.now) (Ship c.args.number c.args.commodity) c.loop-earlier.earlier c.arrives.result
    (c.arrives.ensures ∙ ap (λ n. arrives n c.args.arc.now (c.loop-earlier.earlier + 1)) (c.months-months.ensures ∙ ap (λ s. s.months) c.settings.ensures.value))
    c.loop-earlier.invariant c.in_ok-add_if.ensures
