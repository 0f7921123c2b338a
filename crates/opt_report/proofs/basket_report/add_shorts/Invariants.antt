use Rattle.std.proofs.Common.{◌≡◌, ◌++◌, take}
use Rattle.opt_model.specs.Quantities.{over}
use Rattle.opt_report.specs.Rations.{short_at}
use Rattle.opt_report.specs.PointPlans.{plan_with}
use Rattle.opt_report.proofs.basket_report.add_shorts.Given as goal

abbrev pub invariant-loop-number : goal.invariant-loop-number
invariant-loop-number l = l.text.items ≡ l.initial.text.items ++ (over (take l.number l.tables.needs) λ n _. short_at l.tables (plan_with l.plan) l.at.month l.at.basket n)
