-- What `plan` answers with: the outcome of a plan of the folder's model.
use Rattle.std.specs.Prelude.{◌≡◌, ◌≤◌, ℕ, List, length, Option}
use Rattle.opt_base.specs.Outside.{Files}
use Rattle.opt_model.specs.Tables.{Tables}
use Rattle.opt_model.specs.Quantities.{rations}
use Rattle.opt_reply.specs.Answer.{Answer}
use Rattle.opt_tree.specs.declared.outcome.Outcome.{Outcome}
use Rattle.opt_tree.specs.Outcomes.{outcome_certificate}
use Rattle.opt_search.specs.Outcomes.{FollowsGuide}
use Rattle.opt_simplex.specs.Guide.{IsClippedEnd, IsFirstCut}
use Rattle.opt_dive.specs.Guide.{IsDive}
use Rattle.opt_cert.specs.Texts.{certificate_text}
use Rattle.opt_plan.specs.Models.{own_system}
use Rattle.opt_plan.specs.Problems.{IsOutcomeFor}
use Rattle.optimus.specs.declared.limits.TheConstants.{CERTIFICATE_LIMIT}
use Rattle.optimus.specs.Answers.{AnswersModel, printed_answer}
use Rattle.optimus.specs.Checking.{ChecksText}
use Rattle.optimus.specs.Verdicts.{outcome_answer}

-- what the planner's guide may answer was kept: the clipped multipliers of the simplex on each box, a dive of the rations from
-- its optimum, the first quantity whose value is not whole as cut
abbrev pub FollowsDives : Tables → Outcome → Type 0
FollowsDives t o = FollowsGuide IsClippedEnd (IsDive (length (rations t))) IsFirstCut (own_system t) t.settings.gap o

-- the certificate's text is within the limit of those that `check` reads
abbrev pub IsReadable : Outcome → Type 0
IsReadable o = length (certificate_text (outcome_certificate o)) ≤ CERTIFICATE_LIMIT

-- `check` says the same of the certificate that is put, with the same status and line
abbrev pub IsRepeated : Tables → Outcome → Answer → Type 0
IsRepeated t o answer =
    (checked : Answer) → ChecksText t (certificate_text (outcome_certificate o)) checked → checked ≡ printed_answer answer.status answer.printed

-- an outcome of the planner is given: its certificate, its plan file, its summary, then its line
pub record PlansModel (folder : List ℕ) (t : Tables) (answer : Answer) : Type 0 where
  pub outcome : Outcome
  pub answer_is : answer ≡ outcome_answer folder t outcome
  pub proved : IsOutcomeFor t outcome
  pub guided : FollowsDives t outcome
  pub readable : IsReadable outcome
  pub repeats : IsRepeated t outcome answer

-- what `plan` may answer
abbrev pub PlanAnswers : Option Files → List ℕ → Answer → Type 0
PlanAnswers told folder answer = AnswersModel told folder (PlansModel folder) answer
