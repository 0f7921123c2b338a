use Rattle.std.proofs.Common.{◌≡◌, ◌+◌, ◌<◌, ℕ, drop, length}
use Rattle.opt_base.specs.Answers.{each}
use Rattle.opt_model.specs.Quantities.{quantities}
use Rattle.opt_rows.specs.Systems.{root_of}
use Rattle.opt_sums.specs.Sums.{at}
use Rattle.opt_tables.specs.Facts.{IsFrom}
use Rattle.opt_report.specs.PlanFiles.{with_next, values_of}
use Rattle.opt_report.proofs.plan_reading.values.Given as goal

-- the quantities so far and those that are left give all values; those so far lie in their ranges
abbrev pub invariant-loop-i : goal.invariant-loop-i
invariant-loop-i l = record {
  whole : each (with_next l.tables l.listed) (l.i + 1) l.values.items (drop l.i (quantities l.tables)) ≡ values_of l.tables l.listed;
  count : length l.values.items ≡ l.i;
  within : (j : ℕ) → j < l.i → IsFrom (at (root_of l.tables).low j) (at (root_of l.tables).high j) (at l.values.items j);
}
