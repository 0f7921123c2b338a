use Rattle.std.proofs.Common.{◌^◌, ◌≤◌, take}
use Rattle.opt_bound.specs.Clip.{IsLargest}
use Rattle.opt_bound.proofs.clipping.largest.Given as goal

abbrev pub invariant-loop-entry : goal.invariant-loop-entry
invariant-loop-entry l = IsLargest l.q (take l.entry-index l.entries) l.size × (l.size ≤ 2 ^ 127)
