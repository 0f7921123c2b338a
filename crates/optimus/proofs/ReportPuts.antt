-- The reports of a plan are put one after the other.
use Rattle.std.proofs.Common.{◌≡◌, ℕ, List, [], ◌∷◌, ◌++◌, Result, Ok, Err, ℤ, ap, ◌∙◌, subst}
use Rattle.std.specs.Prelude.{IfOk, codes}
use Rattle.opt_model.specs.Tables.{Tables}
use Rattle.opt_model.specs.Plans.{Plan, plan_of}
use Rattle.opt_model.specs.Quantities.{quantities}
use Rattle.opt_reply.specs.Answer.{Answer}
use Rattle.opt_report.specs.Reports.{AreReportsOf}
use Rattle.opt_report.specs.declared.reporting.ReportSet.{ReportSet}
use Rattle.opt_report.specs.Sites.{sites_text}
use Rattle.opt_report.specs.Spending.{costs_text}
use Rattle.optimus.specs.Reporting.{sites_path, costs_path, basket_path, written_answer}
use Rattle.optimus.specs.Verdicts.{with_put}

-- the reports of these texts are put, and a line says so
abbrev written_with : List ℕ → List ℕ → List ℕ → List ℕ → Answer
written_with folder sites costs basket = record {
  status = 0;
  puts = (sites_path folder, sites) ∷ (costs_path folder, costs) ∷ (basket_path folder, basket) ∷ [];
  printed = codes "report written\n";
  refused = [];
}

-- an answer with the line
abbrev with_line : Answer → Answer
with_line answer = record answer { printed = answer.printed ++ codes "report written\n" }

pub written_by : (folder : List ℕ) (t : Tables) (plan : Plan) (reports : ReportSet) → AreReportsOf t plan reports → (a b c d e : Answer)
    → a ≡ record { status = 0; puts = []; printed = []; refused = [] }
    → b ≡ with_put a (sites_path folder) reports.sites
    → c ≡ with_put b (costs_path folder) reports.costs
    → d ≡ with_put c (basket_path folder) reports.basket
    → e ≡ with_line d
    → e ≡ written_answer folder t plan
written_by folder t plan reports are a b c d e start sites costs basket line =
    let first : b ≡ _ = sites ∙ ap (λ (p : Answer). with_put p (sites_path folder) reports.sites) start in
    let second : c ≡ _ = costs ∙ ap (λ (p : Answer). with_put p (costs_path folder) reports.costs) first in
    let third : d ≡ _ = basket ∙ ap (λ (p : Answer). with_put p (basket_path folder) reports.basket) second in
    let all : e ≡ written_with folder reports.sites reports.costs reports.basket = line ∙ ap with_line third in
    all
    ∙ (ap (λ (text : List ℕ). written_with folder text reports.costs reports.basket) are.sites
    ∙ (ap (λ (text : List ℕ). written_with folder (sites_text t plan) text reports.basket) are.costs
    ∙ ap (λ (text : List ℕ). written_with folder (sites_text t plan) (costs_text t plan) text) are.basket))

-- reports of a point are those of its plan
pub written_of : {E : Type 0} (folder : List ℕ) (t u : Tables) (x : List ℤ) (reports : ReportSet) (r : Result Answer E) → u ≡ t
    → AreReportsOf u (plan_of (quantities u) x) reports
    → IfOk r (λ answer. (v : Tables) (plan : Plan) → AreReportsOf v plan reports → answer ≡ written_answer folder v plan)
    → IfOk r (λ answer. answer ≡ written_answer folder t (plan_of (quantities t) x))
written_of folder t u x reports (Ok answer) same are each =
    each t (plan_of (quantities t) x) (subst (λ (v : Tables). AreReportsOf v (plan_of (quantities v) x) reports) same are)
written_of folder t u x reports (Err fault) same are each = tt
