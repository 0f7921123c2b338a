use Rattle.std.proofs.Common.{◌≡◌, take}
use Rattle.opt_rows.proofs.ranges.root_range.Given as goal

abbrev pub invariant-loop-i : goal.invariant-loop-i
invariant-loop-i l = record {
  low_is : l.low.items ≡ take l.i l.layout.lows;
  high_is : l.high.items ≡ take l.i l.layout.highs;
}
