use Rattle.std.proofs.Common.{◌≡◌, Ok, ap, ◌∙◌}
use Rattle.std.proofs.lemmas.Result.{IfOk-weaker}
use Rattle.opt_model.specs.Plans.{plan_of}
use Rattle.opt_model.specs.Quantities.{quantities}
use Rattle.opt_model.specs.Texts.{plan_text}
use Rattle.opt_report.specs.PlanFiles.{plan_values}
use Rattle.opt_report.proofs.PlanBack.{back}
use Rattle.opt_report.proofs.plan_writing.plan_text.Goals as goal

pub returns-clause-back : goal.returns-clause-back
returns-clause-back c =
    let t = c.args.tables.now in
    let x = c.args.point.now in
    IfOk-weaker c.text_of.result (λ text. text ≡ plan_text t (plan_of (quantities t) x)) (λ text. plan_values t text ≡ Ok x)
    (λ text is. ap (plan_values t) is ∙ back t c.settings-settings.ensures.model x c.requires.within) c.text_of.ensures
