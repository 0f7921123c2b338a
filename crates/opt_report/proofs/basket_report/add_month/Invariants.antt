use Rattle.std.proofs.Common.{◌≡◌, ◌++◌, take}
use Rattle.opt_model.specs.Quantities.{over}
use Rattle.opt_report.specs.Rations.{monthly_records}
use Rattle.opt_report.specs.PointPlans.{plan_with}
use Rattle.opt_report.proofs.basket_report.add_month.Given as goal

abbrev pub invariant-loop-basket : goal.invariant-loop-basket
invariant-loop-basket l = l.text.items ≡ l.initial.text.items ++ (over (take l.basket l.tables.baskets) λ n _. monthly_records l.tables (plan_with l.plan) l.month n)
