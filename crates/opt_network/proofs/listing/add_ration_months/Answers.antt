use Rattle.std.proofs.Common.{ℕ, List, ◌∷◌, []}
use Rattle.opt_model.specs.declared.quantity.Quantity.{Quantity}
use Rattle.opt_model.specs.declared.quantity.Quantity.TheVariants.{Ration}
use Rattle.opt_network.proofs.MonthLists.{month_step}
use Rattle.opt_network.proofs.listing.add_ration_months.Goals as goal

pub loop-earlier-preserved : goal.loop-earlier-preserved
loop-earlier-preserved c =
    let f : ℕ → List Quantity = λ m. Ration c.args.basket c.args.commodity m ∷ [] in
    month_step c.args.list.now.items c.loop-earlier.list.items c.add_if.new.list.items f c.loop-earlier.earlier c.loop-earlier.invariant c.in_ok-add_if.ensures
