-- What `report` answers with: three reports of the plan file of a folder, or the rows that it does not meet.
use Rattle.std.specs.Prelude.{◌≡◌, ◌↔◌, ℕ, List, [], ◌∷◌, ◌++◌, codes, Option, ℤ}
use Rattle.opt_base.specs.Outside.{Files}
use Rattle.opt_model.specs.Tables.{Tables}
use Rattle.opt_model.specs.Plans.{Plan, Feasible}
use Rattle.opt_reply.specs.Answer.{Put, Answer}
use Rattle.opt_report.specs.Sites.{sites_text}
use Rattle.opt_report.specs.Spending.{costs_text}
use Rattle.opt_report.specs.Rations.{basket_text}
use Rattle.opt_report.specs.Broken.{breaches_of}
use Rattle.optimus.specs.Answers.{AnswersModel}
use Rattle.optimus.specs.Auditing.{AnswersPlan, audit_answer}

-- where the reports of a folder stand
abbrev pub sites_path : List ℕ → List ℕ
sites_path folder = folder ++ codes "/report_sites.csv"

abbrev pub costs_path : List ℕ → List ℕ
costs_path folder = folder ++ codes "/report_costs.csv"

abbrev pub basket_path : List ℕ → List ℕ
basket_path folder = folder ++ codes "/report_basket.csv"

-- the reports of a plan
abbrev pub report_puts : List ℕ → Tables → Plan → List Put
report_puts folder t plan =
    (sites_path folder, sites_text t plan) ∷ (costs_path folder, costs_text t plan) ∷ (basket_path folder, basket_text t plan) ∷ []

-- the reports are put, and a line says so
abbrev pub written_answer : List ℕ → Tables → Plan → Answer
written_answer folder t plan = record { status = 0; puts = report_puts folder t plan; printed = codes "report written\n"; refused = [] }

-- the reports where no row is broken, else the broken rows, and nothing is put
abbrev pub unless_broken : List ℕ → Tables → Plan → List (ℕ × ℤ) → Answer
unless_broken folder t plan [] = written_answer folder t plan
unless_broken folder t plan (breach ∷ breaches) = audit_answer t plan

abbrev pub report_answer : List ℕ → Tables → Plan → Answer
report_answer folder t plan = unless_broken folder t plan (breaches_of t plan)

-- the reports of a plan are put, or its broken rows printed, with status 0 just where the plan is feasible
pub record ReportsPlan (folder : List ℕ) (t : Tables) (plan : Plan) (answer : Answer) : Type 0 where
  pub answer_is : answer ≡ report_answer folder t plan
  pub feasible : (answer.status ≡ 0) ↔ Feasible t plan

-- what `report` may answer
abbrev pub ReportAnswers : Option Files → List ℕ → Answer → Type 0
ReportAnswers told folder answer = AnswersModel told folder (λ t. AnswersPlan told folder t (ReportsPlan folder t)) answer
