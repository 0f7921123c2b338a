-- the ranges of the quantities so far
use Rattle.std.proofs.Common.{◌≡◌, map, take}
use Rattle.opt_model.specs.Quantities.{low, high}
use Rattle.opt_network.proofs.spans.spans_of.Given as goal

abbrev pub invariant-loop-quantity : goal.invariant-loop-quantity
invariant-loop-quantity l = record {
  lows : l.lows.items ≡ map (low l.tables) (take l.quantity-index l.list);
  highs : l.highs.items ≡ map (high l.tables) (take l.quantity-index l.list);
}
