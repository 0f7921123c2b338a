use Rattle.std.proofs.Common.{sym}
use Rattle.opt_model.specs.Quantities.{same_quantity}
use Rattle.opt_model.proofs.Quantities.{same_quantity-self}
use Rattle.opt_network.proofs.Lookups.{position-once}
use Rattle.opt_network.proofs.layout.Layout.quantity.Goals as goal

pub returns-clause-inverse : goal.returns-clause-inverse
returns-clause-inverse c =
    let q = c.in-Some.quantity.now in
    rw (← c.self.view_is)
    (position-once (same_quantity q) c.self.inside.quantities.keys c.args.i q (sym c.in-Some.ensures.key) (same_quantity-self q) (c.self.invariant.once q))
