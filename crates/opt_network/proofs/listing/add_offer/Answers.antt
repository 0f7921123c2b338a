use Rattle.opt_model.specs.Quantities.{is_offered}
use Rattle.opt_model.specs.declared.quantity.Quantity.TheVariants.{Buy}
use Rattle.opt_network.proofs.MonthLists.{test_step}
use Rattle.opt_network.proofs.listing.add_offer.Goals as goal

pub loop-earlier-preserved : goal.loop-earlier-preserved
loop-earlier-preserved c =
    test_step c.args.list.now.items c.loop-earlier.list.items c.add_if.new.list.items (is_offered c.args.offer.now) (Buy c.args.number) c.loop-earlier.earlier c.is_offered.result c.is_offered.ensures
    c.loop-earlier.invariant c.in_ok-add_if.ensures
