use Rattle.std.proofs.Common.{length}
use Rattle.opt_check.proofs.BytesSteps.{IsReadTo}
use Rattle.opt_check.proofs.bytes.check_bytes.Given as goal

abbrev pub invariant-loop-progress : goal.invariant-loop-progress
invariant-loop-progress l = IsReadTo l.system l.gap l.bytes l.lines l.held l.progress

abbrev pub decreases-loop-progress : goal.decreases-loop-progress
decreases-loop-progress l = length l.lines.pieces
