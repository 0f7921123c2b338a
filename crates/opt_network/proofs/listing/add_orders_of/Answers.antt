use Rattle.opt_network.specs.Counts.{is_ordered}
use Rattle.opt_model.specs.declared.quantity.Quantity.TheVariants.{Order}
use Rattle.opt_network.proofs.MonthLists.{test_step}
use Rattle.opt_network.proofs.listing.add_orders_of.Goals as goal

pub loop-earlier-preserved : goal.loop-earlier-preserved
loop-earlier-preserved c =
    test_step c.args.list.now.items c.loop-earlier.list.items c.add_if.new.list.items (is_ordered c.args.offer.now) (Order c.args.number) c.loop-earlier.earlier c.is_ordered.result c.is_ordered.ensures
    c.loop-earlier.invariant c.in_ok-add_if.ensures
