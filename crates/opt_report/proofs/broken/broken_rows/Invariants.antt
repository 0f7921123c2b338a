use Rattle.std.proofs.Common.{◌≡◌, take}
use Rattle.opt_model.specs.Quantities.{over}
use Rattle.opt_report.specs.Broken.{breach_at}
use Rattle.opt_report.proofs.broken.broken_rows.Given as goal

abbrev pub invariant-loop-i : goal.invariant-loop-i
invariant-loop-i l = l.rows.items ≡ over (take l.i l.system.rows) (breach_at l.point)
