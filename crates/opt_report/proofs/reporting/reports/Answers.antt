use Rattle.std.proofs.Common.{◌≡◌, List, ℤ, sym, subst, ap, ◌∙◌}
use Rattle.opt_model.specs.Plans.{Plan, plan_of}
use Rattle.opt_model.specs.Quantities.{quantities}
use Rattle.opt_network.specs.Numbering.{Numbering}
use Rattle.opt_report.specs.PointPlans.{plan_with}
use Rattle.opt_report.specs.Sites.{sites_text}
use Rattle.opt_report.specs.Spending.{costs_text}
use Rattle.opt_report.specs.Rations.{basket_text}
use Rattle.opt_report.proofs.reporting.reports.Goals as goal

pub returns : goal.returns
returns c =
    let t = c.args.tables.now in
    let same : plan_with c.new-plan.result ≡ plan_of (quantities t) c.args.point.now =
    c.new-plan.ensures ∙ ap (λ (l : Numbering). plan_of l.quantities c.args.point.now) c.requires.layout.same in
    record {
      sites = c.in_ok-from_slice.ensures ∙ (c.deref.ensures.value ∙ (c.in_ok-sites.ensures ∙ ap (sites_text t) same));
      costs = c.in_ok-from_slice-2.ensures ∙ (c.deref-2.ensures.value ∙ (c.in_ok-costs.ensures ∙ ap (costs_text t) same));
      basket = c.in_ok-from_slice-3.ensures ∙ (c.deref-3.ensures.value ∙ (c.in_ok-basket.ensures ∙ ap (basket_text t) same));
    }
