use Rattle.std.proofs.Common.{[]}
use Rattle.opt_rows.proofs.sums.negate.Goals as goal
