use Rattle.std.proofs.Common.{◌≡◌, ℕ, List, ℤ, Option, ap, sym, ◌∙◌, subst}
use Rattle.std.specs.Prelude.{IfOk, IfSome}
use Rattle.opt_model.specs.Plans.{plan_of}
use Rattle.opt_model.specs.Quantities.{quantities}
use Rattle.opt_model.specs.Tables.{Tables}
use Rattle.opt_model.specs.Texts.{plan_text}
use Rattle.opt_rows.specs.Systems.{root_of}
use Rattle.opt_system.specs.Ranges.{IsWithin}
use Rattle.optimus.specs.Verdicts.{plan_file_of}
use Rattle.optimus.proofs.outcome_reply.plan_file.Goals as goal

pub plan_text-requires-clause-within : goal.plan_text-requires-clause-within
plan_text-requires-clause-within c =
    let within : IsWithin (root_of c.args.problem.now) c.in-Some.point =
    subst (λ (best : Option (List ℤ)). IfSome best (IsWithin (root_of c.args.problem.now))) c.in-Some.is c.requires
    in
    subst (λ (t : Tables). IsWithin (root_of t) c.in-Some.point) (sym c.tables.ensures) within

pub returns-in-Some : goal.returns-in-Some
returns-in-Some c =
    let same : plan_text c.tables.result.now (plan_of (quantities c.tables.result.now) c.in-Some.point) ≡ plan_file_of c.args.problem.now c.args.best.now =
    ap (λ (t : Tables). plan_text t (plan_of (quantities t) c.in-Some.point)) c.tables.ensures ∙ ap (plan_file_of c.args.problem.now) (sym c.in-Some.is)
    in
    subst (λ (text : List ℕ). IfOk c.plan_text.result (λ file. file ≡ text)) same c.plan_text.ensures.text
