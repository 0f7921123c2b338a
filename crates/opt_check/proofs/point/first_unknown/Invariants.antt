use Rattle.std.proofs.Common.{◌≡◌, drop}
use Rattle.opt_tree.specs.Shown.{first_unknown}
use Rattle.opt_check.proofs.point.first_unknown.Given as goal

abbrev pub invariant-loop-entry : goal.invariant-loop-entry
invariant-loop-entry l = first_unknown l.quantities l.entries ≡ first_unknown l.quantities (drop l.entry-index l.entries)
