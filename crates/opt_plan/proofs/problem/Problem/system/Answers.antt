use Rattle.std.proofs.Common.{◌≡◌, None, ap, sym, ◌∙◌, subst}
use Rattle.opt_model.specs.Tables.{Tables}
use Rattle.opt_rows.specs.Laws.{SpeaksFor}
use Rattle.opt_rows.proofs.Distinct.{system_speaks}
use Rattle.opt_system.specs.Systems.{System}
use Rattle.opt_plan.specs.Models.{own_system}
use Rattle.opt_plan.proofs.problem.Problem.system.Goals as goal

pub returns-clause-system : goal.returns-clause-system
returns-clause-system c = c.self.invariant.system ∙ ap own_system c.self.view_is

pub returns-clause-law : goal.returns-clause-law
returns-clause-law c =
    let t : Tables = c.args.self.now in
    let is : c.self.inside.system ≡ own_system t = c.self.invariant.system ∙ ap own_system c.self.view_is in
    subst (λ (s : System). SpeaksFor t t.settings.goal None s) (sym is) (system_speaks t t.settings.goal None)
