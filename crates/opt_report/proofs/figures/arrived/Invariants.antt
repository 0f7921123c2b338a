use Rattle.std.proofs.Common.{◌≡◌, ◌*◌, ◌^◌, ◌≤ℤ◌, pos, take}
use Rattle.opt_model.specs.Plans.{sum_of}
use Rattle.opt_model.specs.Quantities.{over}
use Rattle.opt_report.specs.Sites.{arriving_terms}
use Rattle.opt_report.specs.PointPlans.{plan_with}
use Rattle.opt_report.proofs.figures.arrived.Given as goal

abbrev pub invariant-loop-number : goal.invariant-loop-number
invariant-loop-number l = record {
  sum : l.sum ≡ sum_of (over (take l.number l.tables.arcs) (arriving_terms l.site.place l.site.commodity l.site.month)) (plan_with l.plan);
  low : pos 0 ≤ℤ l.sum;
  high : l.sum ≤ℤ pos (2 ^ 40 * l.number);
}
