use Rattle.std.proofs.Common.{◌+◌, ◌&&◌, arith, ap, ◌∙◌}
use Rattle.opt_model.specs.Quantities.{is_point}
use Rattle.opt_network.specs.Counts.{is_fed}
use Rattle.opt_model.specs.declared.quantity.Quantity.TheVariants.{Feed}
use Rattle.opt_network.proofs.MonthLists.{test_step}
use Rattle.opt_network.proofs.flows.add_feed_months.Goals as goal

pub loop-earlier-preserved : goal.loop-earlier-preserved
loop-earlier-preserved c =
    let said = c.requires.fed c.args.number (c.loop-earlier.earlier + 1) (omega arith, omega (arith, c.loop-earlier-test.true, c.months-earlier-end.ensures, ap (λ s. s.months) c.settings.ensures.value)) in
    test_step c.args.list.now.items c.loop-earlier.list.items c.add_if.new.list.items (is_fed c.args.tables.now c.args.number c.args.place.now.kind) (Feed c.args.number c.args.commodity) c.loop-earlier.earlier c.is_fed.result
    (c.is_fed.ensures ∙ ap (λ b. is_point c.args.place.now.kind && b) said)
    c.loop-earlier.invariant c.in_ok-add_if.ensures
