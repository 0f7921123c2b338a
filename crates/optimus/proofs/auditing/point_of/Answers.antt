use Rattle.std.proofs.Common.{◌≡◌, List, ℤ, sym, ◌∙◌, subst}
use Rattle.opt_base.specs.Answers.{Fails}
use Rattle.opt_model.specs.Tables.{Tables}
use Rattle.opt_report.specs.PlanFiles.{plan_values}
use Rattle.opt_rows.specs.Systems.{root_of}
use Rattle.opt_system.specs.Ranges.{IsWithin}
use Rattle.optimus.proofs.Folders.{fails_got, not_outside}
use Rattle.optimus.proofs.auditing.point_of.Goals as goal

pub read_plan-requires-clause-layout : goal.read_plan-requires-clause-layout
read_plan-requires-clause-layout c = rw c.tables.ensures c.layout.ensures

pub read_plan-requires-clause-bytes : goal.read_plan-requires-clause-bytes
read_plan-requires-clause-bytes c = rw c.as_slice.ensures c.requires

pub returns-in-Ok-clause-exact : goal.returns-in-Ok-clause-exact
returns-in-Ok-clause-exact c =
    let same : plan_values c.tables.result.now c.as_slice.result.now ≡ plan_values c.args.problem.now c.args.bytes.now = cc (c.tables.ensures, c.as_slice.ensures) in
    sym same ∙ c.in-Ok.ensures.answer

pub returns-in-Ok-clause-within : goal.returns-in-Ok-clause-within
returns-in-Ok-clause-within c = subst (λ (t : Tables). IsWithin (root_of t) c.in-Ok.point) c.tables.ensures c.in-Ok.ensures.within

pub returns-in-Err-clause-exact : goal.returns-in-Err-clause-exact
returns-in-Err-clause-exact c =
    let same : plan_values c.tables.result.now c.as_slice.result.now ≡ plan_values c.args.problem.now c.args.bytes.now = cc (c.tables.ensures, c.as_slice.ensures) in
    rw c.fetch_fault.ensures
    (fails_got (λ (x : List ℤ). x) c.in-Err.fault (plan_values c.args.problem.now c.args.bytes.now) (subst (Fails c.in-Err.fault) same c.in-Err.ensures.answer))

pub returns-in-Err-clause-inside : goal.returns-in-Err-clause-inside
returns-in-Err-clause-inside c = λ e. not_outside c.in-Err.fault (cc (c.fetch_fault.ensures, e))
