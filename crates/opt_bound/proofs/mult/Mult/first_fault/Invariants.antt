use Rattle.std.proofs.Common.{◌≡◌, take, None}
use Rattle.opt_bound.specs.Faults.{first_fault_of}
use Rattle.opt_bound.proofs.mult.Mult.first_fault.Given as goal

abbrev pub invariant-loop-entry : goal.invariant-loop-entry
invariant-loop-entry l = first_fault_of l.system (take l.entry-index l.entry-items) ≡ None
