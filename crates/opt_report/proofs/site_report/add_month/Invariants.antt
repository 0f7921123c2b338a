use Rattle.std.proofs.Common.{◌≡◌, ◌++◌, take}
use Rattle.opt_model.specs.Quantities.{over}
use Rattle.opt_report.specs.Sites.{site_record}
use Rattle.opt_report.specs.PointPlans.{plan_with}
use Rattle.opt_report.proofs.site_report.add_month.Given as goal

abbrev pub invariant-loop-place : goal.invariant-loop-place
invariant-loop-place l =
    l.text.items ≡ l.initial.text.items ++ (over (take l.place l.tables.places) λ p _. over l.tables.commodities λ c _. site_record l.tables (plan_with l.plan) l.month p c)
