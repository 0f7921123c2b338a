-- the quantities so far
use Rattle.std.proofs.Common.{◌≡◌, take}
use Rattle.opt_network.proofs.numbers.number_quantities.Given as goal

abbrev pub invariant-loop-quantity : goal.invariant-loop-quantity
invariant-loop-quantity l = l.numbers.keys ≡ take l.quantity-index l.list
