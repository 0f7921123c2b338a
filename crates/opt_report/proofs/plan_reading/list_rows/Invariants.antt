use Rattle.std.proofs.Common.{◌≡◌, ◌+◌, drop}
use Rattle.opt_base.specs.Answers.{each}
use Rattle.opt_report.specs.PlanFiles.{AreListed, with_record, listed_in}
use Rattle.opt_report.proofs.plan_reading.list_rows.Given as goal

-- the records so far and what is left are the whole file
abbrev pub invariant-loop-i : goal.invariant-loop-i
invariant-loop-i l = record {
  whole : each (with_record l.tables) (l.i + 1) l.listed.items (drop l.i l.cells) ≡ listed_in l.tables l.cells;
  listed : AreListed l.tables l.listed.items;
}
