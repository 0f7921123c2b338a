-- What is given of a verdict: its status and its line; of the outcome of a plan also three files.
use Rattle.std.specs.Prelude.{ℕ, List, [], ◌∷◌, ◌++◌, length, codes, Option, Some, None, ℤ}
use Rattle.opt_base.specs.declared.refusal.File.TheVariants as file
use Rattle.opt_base.specs.declared.verdict.Verdict.{Verdict}
use Rattle.opt_base.specs.declared.verdict.Verdict.TheVariants as verdict
use Rattle.opt_model.specs.Tables.{Tables}
use Rattle.opt_model.specs.Quantities.{quantities}
use Rattle.opt_model.specs.Plans.{plan_of}
use Rattle.opt_model.specs.Texts.{plan_text, outcome_line}
use Rattle.opt_reply.specs.Answer.{Put, Answer}
use Rattle.opt_tables.specs.Files.{path_of}
use Rattle.opt_tree.specs.declared.outcome.Outcome.{Outcome}
use Rattle.opt_tree.specs.Outcomes.{outcome_certificate}
use Rattle.opt_cert.specs.Texts.{certificate_text}
use Rattle.opt_report.specs.Summaries.{summary_text}

-- the status of a verdict
abbrev pub status_of : Verdict → ℕ
status_of (verdict.Plan objective bound) = 0
status_of verdict.NoPlan = 1
status_of (verdict.Unfinished bound best) = 2

-- the nodes of an outcome's tree
abbrev pub nodes_of : Outcome → ℕ
nodes_of o = length o.tree.nodes

-- the plan file of the best values by number; it holds no byte where none are known
abbrev pub plan_file_of : Tables → Option (List ℤ) → List ℕ
plan_file_of t None = []
plan_file_of t (Some x) = plan_text t (plan_of (quantities t) x)

-- where the summary of a folder stands
abbrev pub summary_path : List ℕ → List ℕ
summary_path folder = folder ++ codes "/summary.json"

-- the files of an outcome: its certificate, its plan file and its summary
abbrev pub outcome_puts : List ℕ → Tables → Outcome → List Put
outcome_puts folder t o =
    (path_of folder file.Certificate, certificate_text (outcome_certificate o))
    ∷ (path_of folder file.Plan, plan_file_of t o.best)
    ∷ (summary_path folder, summary_text t.settings.goal o.verdict (nodes_of o))
    ∷ []

-- an answer with one more put
abbrev pub with_put : Answer → List ℕ → List ℕ → Answer
with_put answer path bytes = record answer { puts = answer.puts ++ (path, bytes) ∷ [] }

-- an answer with these files and the verdict's line
abbrev pub with_outcome : Answer → List ℕ → Tables → Outcome → Answer
with_outcome answer folder t o =
    record answer { puts = answer.puts ++ outcome_puts folder t o; printed = answer.printed ++ outcome_line o.verdict (nodes_of o) }

-- these files, and the verdict's line
abbrev pub outcome_answer : List ℕ → Tables → Outcome → Answer
outcome_answer folder t o =
    record { status = status_of o.verdict; puts = outcome_puts folder t o; printed = outcome_line o.verdict (nodes_of o); refused = [] }
