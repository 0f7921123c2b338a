-- Which words are a form of the program, and what is answered to them.
use Rattle.std.specs.Prelude.{◌≡◌, ℕ, Bool, false, not, List, [], ◌∷◌, bytes_eq, nat_eq, codes, Option, Some, None, option_map, if◌then◌else◌}
use Rattle.opt_base.specs.Outside.{Files}
use Rattle.opt_reply.specs.Answer.{Answer}
use Rattle.optimus.specs.declared.command.Command.{Command}
use Rattle.optimus.specs.declared.command.Command.TheVariants.{Plan, Check, Audit, Report}
use Rattle.optimus.specs.Answers.{refused_with}
use Rattle.optimus.specs.Planning.{PlanAnswers}
use Rattle.optimus.specs.Checking.{CheckAnswers}
use Rattle.optimus.specs.Auditing.{AuditAnswers}
use Rattle.optimus.specs.Reporting.{ReportAnswers}

-- a word that can name a folder: it is not empty and does not begin with a dash
abbrev pub is_folder : List ℕ → Bool
is_folder [] = false
is_folder (byte ∷ bytes) = not (nat_eq byte 45)

-- the command of this name
abbrev pub command_named : List ℕ → Option Command
command_named word =
    if bytes_eq word (codes "plan") then Some Plan
    else (if bytes_eq word (codes "check") then Some Check
    else (if bytes_eq word (codes "audit") then Some Audit
    else (if bytes_eq word (codes "report") then Some Report else None)))

-- a form of the program: a command's name and a folder
abbrev pub form_of : List (List ℕ) → Option (Command × List ℕ)
form_of (name ∷ folder ∷ []) = if is_folder folder then option_map (λ command. (command, folder)) (command_named name) else None
form_of words = None

-- the answer to words that are no form
abbrev pub refused_words : Answer
refused_words = refused_with (codes "refused words\n")

-- what a command may answer of a folder
abbrev pub CommandAnswers : Option Files → Command → List ℕ → Answer → Type 0
CommandAnswers told Plan folder = PlanAnswers told folder
CommandAnswers told Check folder = CheckAnswers told folder
CommandAnswers told Audit folder = AuditAnswers told folder
CommandAnswers told Report folder = ReportAnswers told folder

-- what may be answered to a form, or to words that are none
abbrev pub FormAnswers : Option Files → Option (Command × List ℕ) → Answer → Type 0
FormAnswers told (Some form) answer = CommandAnswers told form.0 form.1 answer
FormAnswers told None answer = answer ≡ refused_words

-- what may be answered to these words
abbrev pub WordsAnswers : Option Files → List (List ℕ) → Answer → Type 0
WordsAnswers told words answer = FormAnswers told (form_of words) answer
