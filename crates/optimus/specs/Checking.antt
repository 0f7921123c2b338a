-- What `check` answers with: the verdict that a certificate shows of a model, or the first fault.
use Rattle.std.specs.Prelude.{◌≡◌, ◌⊎◌, ℕ, List, length, Option, Result, Ok, Err}
use Rattle.opt_base.specs.declared.refusal.File.TheVariants as file
use Rattle.opt_base.specs.declared.verdict.Verdict.{Verdict}
use Rattle.opt_base.specs.Outside.{Files}
use Rattle.opt_model.specs.Tables.{Tables}
use Rattle.opt_model.specs.Quantities.{quantities}
use Rattle.opt_model.specs.Plans.{Plan, plan_of}
use Rattle.opt_model.specs.Texts.{outcome_line}
use Rattle.opt_model.specs.Verdicts.{IsTrueVerdict, node_limit}
use Rattle.opt_reply.specs.Answer.{Answer}
use Rattle.opt_tree.specs.declared.check_fault.CheckFault.{CheckFault}
use Rattle.opt_tree.specs.Certificates.{Certificate, listed_point}
use Rattle.opt_tree.specs.Shown.{shown}
use Rattle.opt_tree.specs.Trees.{node_count}
use Rattle.opt_cert.specs.declared.cert_fault.CertFault.{CertFault}
use Rattle.opt_cert.specs.Reading.{text_lines}
use Rattle.opt_cert.specs.Wholes.{IsTextOf}
use Rattle.opt_check.specs.declared.bytes_fault.BytesFault.{BytesFault}
use Rattle.opt_check.specs.declared.bytes_fault.BytesFault.TheVariants.{Cert, Check, OutOfMemory}
use Rattle.opt_check.specs.Lines.{cert_fault_line, check_fault_line}
use Rattle.opt_plan.specs.Models.{own_system}
use Rattle.optimus.specs.declared.limits.TheConstants.{CERTIFICATE_LIMIT}
use Rattle.optimus.specs.Answers.{refused_with, printed_answer, AnswersModel, AnswersFile}
use Rattle.optimus.specs.Verdicts.{status_of}

-- the verdict that is shown by so many nodes, or the first fault of what is shown
abbrev pub shown_answer : Result Verdict CheckFault → ℕ → Answer
shown_answer (Ok v) nodes = printed_answer (status_of v) (outcome_line v nodes)
shown_answer (Err fault) nodes = refused_with (check_fault_line fault)

-- what a certificate shows of a model
abbrev pub shown_of : Tables → Certificate → Result Verdict CheckFault
shown_of t c = shown (own_system t) t.settings.gap (node_limit t) c

-- the plan that a certificate lists
abbrev pub listed_plan : Tables → Certificate → Plan
listed_plan t c = plan_of (quantities t) (listed_point (length (quantities t)) c.point)

-- the answer to what the checker says of a certificate's text
abbrev pub IsAnswerTo : Result (Verdict × ℕ) BytesFault → Answer → Type 0
IsAnswerTo (Ok shown) answer = answer ≡ printed_answer (status_of shown.0) (outcome_line shown.0 shown.1)
IsAnswerTo (Err (Cert fault)) answer = answer ≡ refused_with (cert_fault_line fault)
IsAnswerTo (Err (Check fault)) answer = answer ≡ refused_with (check_fault_line fault)
IsAnswerTo (Err OutOfMemory) answer = ⊥

-- the bytes are no certificate's text: the first line that cannot stand in its place is named
pub record RefusesText (bytes : List ℕ) (answer : Answer) : Type 0 where
  pub fault : CertFault
  pub first : text_lines bytes ≡ Err fault
  pub none : (c : Certificate) → IsTextOf c bytes → ⊥
  pub answer_is : answer ≡ refused_with (cert_fault_line fault)

-- the bytes are a certificate's text: what it shows of the model is answered, and a verdict is true of the model with the plan
-- that the certificate lists
pub record JudgesText (t : Tables) (bytes : List ℕ) (answer : Answer) : Type 0 where
  pub certificate : Certificate
  pub text : IsTextOf certificate bytes
  pub answer_is : (c : Certificate) → IsTextOf c bytes → answer ≡ shown_answer (shown_of t c) (node_count c.tree)
  pub true_verdict : (v : Verdict) → shown_of t certificate ≡ Ok v → IsTrueVerdict t v (listed_plan t certificate)

-- what is answered to the bytes of a certificate file
abbrev pub ChecksText : Tables → List ℕ → Answer → Type 0
ChecksText t bytes answer = RefusesText bytes answer ⊎ JudgesText t bytes answer

-- what `check` may answer
abbrev pub CheckAnswers : Option Files → List ℕ → Answer → Type 0
CheckAnswers told folder answer = AnswersModel told folder (λ t. AnswersFile told folder file.Certificate CERTIFICATE_LIMIT (ChecksText t)) answer
