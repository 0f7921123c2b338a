-- A model with its layout and its system, and what is promised of its plan.
use Rattle.std.specs.Prelude.{◌≡◌, ◌+◌, ◌*◌, ◌≤◌, None}
use Rattle.opt_base.specs.declared.verdict.Verdict.{Verdict}
use Rattle.opt_base.specs.declared.verdict.Verdict.TheVariants as verdict
use Rattle.opt_model.specs.Tables.{Tables}
use Rattle.opt_model.specs.Plans.{Plan, Feasible}
use Rattle.opt_model.specs.Verdicts.{IsTrueVerdict, node_limit}
use Rattle.opt_network.specs.Numbering.{Numbering, IsLayoutOf}
use Rattle.opt_rows.specs.Systems.{root_of}
use Rattle.opt_system.specs.Ranges.{points}
use Rattle.opt_system.specs.Systems.{System}
use Rattle.opt_tree.specs.declared.outcome.Outcome.{Outcome}
use Rattle.opt_plan.specs.Models.{own_system}
use Rattle.opt_plan.specs.Questions.{Question}
use Rattle.opt_plan.specs.Outcomes.{best_plan, IsProved}

-- layout and system are those of the tables
pub record IsProblemOf (t : Tables) (numbering : Numbering) (s : System) : Type 0 where
  pub layout : IsLayoutOf t numbering
  pub system : s ≡ own_system t

-- the question of a model by itself: each of its feasible plans is sought, and its settings name the goal
abbrev pub own_question : Tables → Question
own_question t = record { tables = t; goal = t.settings.goal; cap = None; root = root_of t }

-- the verdict says whether there is a feasible plan
abbrev pub IsFeasibilityDecided : Tables → Verdict → Type 0
IsFeasibilityDecided t (verdict.Plan objective bound) = (plan : Plan) × Feasible t plan
IsFeasibilityDecided t verdict.NoPlan = (plan : Plan) → Feasible t plan → ⊥
IsFeasibilityDecided t (verdict.Unfinished bound best) = ⊥

-- the verdict is true of the model with the plan of the best point, and is proved by the outcome's certificate; where the
-- node limit allows to split down to the points, it says whether there is a feasible plan
pub record IsOutcomeFor (t : Tables) (o : Outcome) : Type 0 where
  pub true_verdict : IsTrueVerdict t o.verdict (best_plan t o)
  pub proved : IsProved (own_system t) t.settings.gap (node_limit t) o
  pub decided : 2 * points (root_of t) ≤ node_limit t + 1 → IsFeasibilityDecided t o.verdict
