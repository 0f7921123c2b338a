use Rattle.std.proofs.Common.{◌≡◌, take}
use Rattle.opt_bound.specs.Clip.{cut_entries as cut_entries_of}
use Rattle.opt_bound.proofs.clipping.cut_entries.Given as goal

abbrev pub invariant-loop-entry : goal.invariant-loop-entry
invariant-loop-entry l = l.kept.items ≡ cut_entries_of l.shift (take l.entry-index l.entries)
