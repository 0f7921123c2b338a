-- What `audit` answers with: the rows that the plan file of a folder does not meet.
use Rattle.std.specs.Prelude.{◌≡◌, ◌↔◌, ℕ, List, [], ◌∷◌, Option, Result, ℤ}
use Rattle.opt_base.specs.Answers.{◌>>=◌}
use Rattle.opt_base.specs.declared.refusal.File.TheVariants as file
use Rattle.opt_base.specs.declared.refusal.Refusal.{Refusal}
use Rattle.opt_base.specs.Outside.{Files}
use Rattle.opt_model.specs.Tables.{Tables}
use Rattle.opt_model.specs.Quantities.{quantities}
use Rattle.opt_model.specs.Plans.{Plan, Feasible, plan_of}
use Rattle.opt_reply.specs.Answer.{Answer}
use Rattle.opt_report.specs.PlanFiles.{plan_values}
use Rattle.opt_report.specs.Broken.{breaches_of}
use Rattle.opt_report.specs.Audits.{audit_of}
use Rattle.optimus.specs.declared.limits.TheConstants.{PLAN_LIMIT}
use Rattle.optimus.specs.Answers.{printed_answer, AnswersTo, AnswersModel}
use Rattle.optimus.specs.Folder.{IsFileIn}

-- the values by number that the plan file of a folder stands for in a model, or the first refusal
pub record IsPlanIn (told : Option Files) (folder : List ℕ) (t : Tables) (plan : Result (List ℤ) Refusal) : Type 0 where
  pub found : Result (List ℕ) Refusal
  pub found_is : IsFileIn told folder file.Plan PLAN_LIMIT found
  pub plan_is : plan ≡ (found >>= plan_values t)

-- what may be answered to the plan file of a folder, or its refusal
pub record AnswersPlan (told : Option Files) (folder : List ℕ) (t : Tables) (may : Plan → Answer → Type 0) (answer : Answer) : Type 0 where
  pub plan : Result (List ℤ) Refusal
  pub plan_is : IsPlanIn told folder t plan
  pub answers : AnswersTo (λ x. may (plan_of (quantities t) x)) plan answer

-- the status of a plan that breaks these rows
abbrev pub status_with : List (ℕ × ℤ) → ℕ
status_with [] = 0
status_with (breach ∷ breaches) = 1

-- the broken rows of a plan, each with its distance, and their count
abbrev pub audit_answer : Tables → Plan → Answer
audit_answer t plan = printed_answer (status_with (breaches_of t plan)) (audit_of t plan)

-- the broken rows of a plan are answered, with status 0 just where the plan is feasible
pub record AuditsPlan (t : Tables) (plan : Plan) (answer : Answer) : Type 0 where
  pub answer_is : answer ≡ audit_answer t plan
  pub feasible : (answer.status ≡ 0) ↔ Feasible t plan

-- what `audit` may answer
abbrev pub AuditAnswers : Option Files → List ℕ → Answer → Type 0
AuditAnswers told folder answer = AnswersModel told folder (λ t. AnswersPlan told folder t (AuditsPlan t)) answer
