-- The three reports of a plan.
use Rattle.std.specs.Prelude.{◌≡◌}
use Rattle.opt_model.specs.Plans.{Plan}
use Rattle.opt_model.specs.Tables.{Tables}
use Rattle.opt_report.specs.Sites.{sites_text}
use Rattle.opt_report.specs.Spending.{costs_text}
use Rattle.opt_report.specs.Rations.{basket_text}
use Rattle.opt_report.specs.declared.reporting.ReportSet.{ReportSet}

-- these are the reports of a plan
pub record AreReportsOf (t : Tables) (plan : Plan) (reports : ReportSet) : Type 0 where
  pub sites : reports.sites ≡ sites_text t plan
  pub costs : reports.costs ≡ costs_text t plan
  pub basket : reports.basket ≡ basket_text t plan
