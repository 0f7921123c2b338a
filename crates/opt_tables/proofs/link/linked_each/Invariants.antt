use Rattle.std.proofs.Common.{◌≡◌, ◌+◌, drop}
use Rattle.opt_base.specs.Answers.{each}
use Rattle.opt_tables.specs.Lines.{with_linked, records_of}
use Rattle.opt_tables.proofs.link.linked_each.Given as goal

-- the records so far and those of the lines that are left are all
abbrev pub invariant-loop-i : goal.invariant-loop-i
invariant-loop-i g l =
    each (with_linked (g.L.Link.record_of l.setup l.named) l.lines) (l.i + 1) l.records (drop l.i l.lines.lines) ≡ records_of (g.L.Link.record_of l.setup l.named) l.lines
