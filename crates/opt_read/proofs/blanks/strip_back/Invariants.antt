use Rattle.std.proofs.Common.{◌≡◌, length}
use Rattle.opt_read.specs.Grid.{without_back}
use Rattle.opt_read.proofs.blanks.strip_back.Given as goal

abbrev pub invariant-loop-rest : goal.invariant-loop-rest
invariant-loop-rest l = without_back l.rest ≡ without_back l.fn.field

abbrev pub decreases-loop-rest : goal.decreases-loop-rest
decreases-loop-rest l = length l.rest
