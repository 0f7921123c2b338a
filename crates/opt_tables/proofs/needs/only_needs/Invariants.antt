use Rattle.std.proofs.Common.{◌≡◌, ◌++◌, drop}
use Rattle.opt_tables.specs.Demand.{needs_from}
use Rattle.opt_tables.proofs.needs.only_needs.Given as goal

-- the needs so far and those of the lines that are left are all
abbrev pub invariant-loop-i : goal.invariant-loop-i
invariant-loop-i l = l.needs ++ needs_from l.i (drop l.i l.lines.lines) ≡ needs_from 0 l.lines.lines
