use Rattle.csv.specs.Writing.{row_text, default_writer}
use Rattle.opt_model.specs.Columns.{names_of}
use Rattle.opt_model.specs.Quantities.{over}
use Rattle.opt_network.proofs.MonthLists.{month_step}
use Rattle.opt_report.specs.PointPlans.{plan_with}
use Rattle.opt_report.specs.Sites.{site_columns, site_record}
use Rattle.opt_report.proofs.site_report.site_report.Goals as goal

pub loop-earlier-preserved : goal.loop-earlier-preserved
loop-earlier-preserved c =
    let t = c.args.tables.now in
    month_step (row_text default_writer (names_of site_columns)) c.loop-earlier.text.items c.add_month.new.text.items
    (λ m. over t.places λ p _. over t.commodities λ k _. site_record t (plan_with c.args.plan.now) m p k) c.loop-earlier.earlier c.loop-earlier.invariant c.in_ok-add_month.ensures
