use Rattle.std.proofs.Common.{◌≡◌, ◌≤◌, ◌*◌, ◌^◌, take, unsigned_abs}
use Rattle.opt_model.specs.Quantities.{sum_over}
use Rattle.opt_report.specs.Spending.{spent_on}
use Rattle.opt_report.specs.PointPlans.{plan_with}
use Rattle.opt_report.proofs.spending.spent.Given as goal

abbrev pub invariant-loop-i : goal.invariant-loop-i
invariant-loop-i l = record {
  sum : l.sum ≡ sum_over (take l.i l.layout.quantities) (spent_on l.tables (plan_with l.plan) l.part l.month);
  small : unsigned_abs l.sum ≤ 2 ^ 103 * l.i;
}
