use Rattle.opt_network.specs.Counts.{has_storage}
use Rattle.opt_model.specs.declared.quantity.Quantity.TheVariants.{Keep}
use Rattle.opt_network.proofs.MonthLists.{test_step}
use Rattle.opt_network.proofs.flows.add_keep_months.Goals as goal

pub loop-earlier-preserved : goal.loop-earlier-preserved
loop-earlier-preserved c =
    test_step c.args.list.now.items c.loop-earlier.list.items c.add_if.new.list.items (λ m. has_storage c.args.place.now) (Keep c.args.number c.args.commodity) c.loop-earlier.earlier c.has_storage.result c.has_storage.ensures
    c.loop-earlier.invariant c.in_ok-add_if.ensures
