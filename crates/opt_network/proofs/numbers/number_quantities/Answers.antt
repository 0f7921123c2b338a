use Rattle.std.proofs.Common.{◌<◌, length, arith, ◌∙◌}
use Rattle.opt_network.proofs.Lookups.{insert_key_next}
use Rattle.opt_network.proofs.numbers.number_quantities.Goals as goal

pub loop-quantity-preserved : goal.loop-quantity-preserved
loop-quantity-preserved c =
    let lt : c.loop-quantity.quantity-index < length c.args.list.now = omega arith in
    let keys = rw c.loop-quantity.invariant at c.in_ok-insert.ensures.keys in
    keys ∙ insert_key_next _ _ _ lt c.requires
