use Rattle.std.proofs.Common.{◌≡◌, ◌+◌, length, drop}
use Rattle.opt_base.specs.Answers.{each}
use Rattle.opt_tables.specs.Lines.{with_record, lines_of}
use Rattle.opt_tables.proofs.lines.Lines.read_all.Given as goal

-- the records so far and what is left are the whole table
abbrev pub invariant-loop-i : goal.invariant-loop-i
invariant-loop-i g l =
    record {
      whole : each (with_record (g.L.Line.line_of l.setup) (g.L.Line.key_of l.setup) l.file) (l.i + 1) l.lines (drop l.i l.cells) ≡ lines_of (g.L.Line.line_of l.setup) (g.L.Line.key_of l.setup) l.file l.cells;
      count : length l.lines.keys ≡ l.i;
    }
