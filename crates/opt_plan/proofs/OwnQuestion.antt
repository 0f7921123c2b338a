-- A true answer to the question of a model by itself is true of the model.
use Rattle.std.proofs.Common.{◌≡◌, ℕ, List, Some, None, Ok, Err, Result, ℤ, refl, subst}
use Rattle.std.specs.Prelude.{IfOk}
use Rattle.opt_base.specs.declared.verdict.Verdict.{Verdict}
use Rattle.opt_base.specs.declared.verdict.Verdict.TheVariants as verdict
use Rattle.opt_model.specs.Tables.{Tables}
use Rattle.opt_model.specs.Quantities.{quantities}
use Rattle.opt_model.specs.Plans as model
use Rattle.opt_model.specs.Plans.{Plan, Feasible, plan_of}
use Rattle.opt_model.specs.Verdicts.{IsTrueVerdict, node_limit}
use Rattle.opt_model.specs.Verdicts as model_verdict
use Rattle.opt_system.specs.Ranges.{IsWithin}
use Rattle.opt_system.specs.Systems.{System}
use Rattle.opt_system.proofs.CutLemmas.{LiesIn-refl}
use Rattle.opt_tree.specs.declared.outcome.Outcome.{Outcome}
use Rattle.opt_tree.specs.Verdicts as system_verdict
use Rattle.opt_rows.specs.Systems.{root_of}
use Rattle.opt_rows.specs.Laws.{IsAllowed, IsPlanOfJust, IsMetBy}
use Rattle.opt_rows.proofs.Distinct.{system_speaks}
use Rattle.opt_plan.specs.Models.{own_system}
use Rattle.opt_plan.specs.Questions.{values_of, IsSought, Below, Attains, IsTrueAnswer, Asks}
use Rattle.opt_plan.specs.Outcomes.{best_plan, IsTrueOfAsked, IsFinished, IsProved}
use Rattle.opt_plan.specs.Problems.{own_question, IsFeasibilityDecided, IsOutcomeFor}
use Rattle.opt_plan.proofs.SoughtPlans.{own_values}
use Rattle.opt_plan.proofs.TrueAnswers.{true_answer}

module _ (t : Tables) where
  own_asks : Asks (own_system t) (own_question t)
  own_asks = record { system = refl; narrower = LiesIn-refl (root_of t) }

  -- each feasible plan is sought
  sought_of : (plan : Plan) → Feasible t plan → IsSought (own_question t) plan
  sought_of plan feasible =
      let allowed : IsAllowed t None plan = record { feasible = feasible; capped = tt } in
      let found : (x : List ℤ) × IsMetBy t t.settings.goal (own_system t) plan x = (system_speaks t t.settings.goal None).listed plan allowed in
      let just : IsPlanOfJust (quantities t) plan found.0 = found.1.plan_of_just in
      let same : found.0 ≡ values_of t plan = (own_values (own_question t) plan feasible).only found.0 just.one_each just.same in
      record { allowed = allowed; in_root = subst (IsWithin (root_of t)) same found.1.met.in_range }

  below_feasible : (bound : ℤ) → Below (own_question t) bound → model.Below t bound
  below_feasible bound below plan feasible = below plan (sought_of plan feasible)

  attains_feasible : (plan : Plan) (objective : ℤ) → Attains (own_question t) plan objective → model_verdict.Attains t plan objective
  attains_feasible plan objective h = record { feasible = h.sought.allowed.feasible; objective_is = h.objective_is }

  true_of_model : (v : Verdict) (plan : Plan) → IsTrueAnswer (own_question t) t.settings.gap v plan → IsTrueVerdict t v plan
  true_of_model (verdict.Plan objective bound) plan h = record {
    attains = attains_feasible plan objective h.attains;
    bound_under = h.bound_under;
    gap_kept = h.gap_kept;
    below = below_feasible bound h.below;
  }
  true_of_model verdict.NoPlan plan h = λ other feasible. h other (sought_of other feasible)
  true_of_model (verdict.Unfinished bound None) plan h = below_feasible bound h
  true_of_model (verdict.Unfinished bound (Some best)) plan h = record {
    attains = attains_feasible plan best h.attains;
    bound_under = h.bound_under;
    below = below_feasible bound h.below;
  }

  -- a verdict that is true of the system, with this point, is true of the model with its plan
  pub true_of_tables : (v : Verdict) (x : List ℤ) → system_verdict.IsTrueVerdict (own_system t) t.settings.gap v x → IsTrueVerdict t v (plan_of (quantities t) x)
  true_of_tables v x h =
      true_of_model v (plan_of (quantities t) x) (true_answer (own_system t) t.settings.gap v x (own_question t) own_asks h)

  decided_by : (v : Verdict) (plan : Plan) → IsTrueVerdict t v plan → IsFinished v → IsFeasibilityDecided t v
  decided_by (verdict.Plan objective bound) plan h finished = (plan, h.attains.feasible)
  decided_by verdict.NoPlan plan h finished = h
  decided_by (verdict.Unfinished bound best) plan h finished = finished

  outcome_of : (o : Outcome) → IsTrueOfAsked (own_system t) t.settings.gap o → IsProved (own_system t) t.settings.gap (node_limit t) o → IsOutcomeFor t o
  outcome_of o true_verdict proved =
      let here : IsTrueVerdict t o.verdict (best_plan t o) = true_of_model o.verdict (best_plan t o) (true_verdict (own_question t) own_asks) in
      record {
        true_verdict = here;
        proved = proved;
        decided = λ enough. decided_by o.verdict (best_plan t o) here (proved.finished enough);
      }

  outcome_by : {E : Type 0} (r : Result Outcome E) → IfOk r (IsTrueOfAsked (own_system t) t.settings.gap)
      → IfOk r (IsProved (own_system t) t.settings.gap (node_limit t)) → IfOk r (IsOutcomeFor t)
  outcome_by (Ok o) true_verdict proved = outcome_of o true_verdict proved
  outcome_by (Err e) true_verdict proved = tt

  module _ (s : System) (gap : ℤ) (is : s ≡ own_system t) (same_gap : gap ≡ t.settings.gap) where
    -- what holds of a system that is the model's own, with its gap, holds of the model's
    pub at_own : (P : System → ℤ → Type 0) → P s gap → P (own_system t) t.settings.gap
    at_own P h = subst (P (own_system t)) same_gap (subst (λ (p : System). P p gap) is h)

    pub outcome_is : {E : Type 0} (limit : ℕ) (r : Result Outcome E) → limit ≡ node_limit t → IfOk r (IsTrueOfAsked s gap) → IfOk r (IsProved s gap limit) → IfOk r (IsOutcomeFor t)
    outcome_is limit r same_limit true_verdict proved =
        outcome_by r (at_own (λ p z. IfOk r (IsTrueOfAsked p z)) true_verdict)
        (subst (λ n. IfOk r (IsProved (own_system t) t.settings.gap n)) same_limit (at_own (λ p z. IfOk r (IsProved p z limit)) proved))
