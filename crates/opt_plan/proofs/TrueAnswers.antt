-- A verdict that is true of a system is a true answer to each question that the system asks.
use Rattle.std.proofs.Common.{◌≡◌, List, Some, None, ℤ, ◌≤ℤ◌, ◌∙◌, subst}
use Rattle.opt_base.specs.declared.verdict.Verdict.{Verdict}
use Rattle.opt_base.specs.declared.verdict.Verdict.TheVariants as verdict
use Rattle.opt_model.specs.Quantities.{quantities}
use Rattle.opt_model.specs.Plans.{plan_of}
use Rattle.opt_system.specs.Ranges.{LiesIn}
use Rattle.opt_system.specs.Systems.{System, Meets, value}
use Rattle.opt_rows.specs.Systems.{root_of}
use Rattle.opt_tree.specs.Verdicts as system
use Rattle.opt_plan.specs.Questions.{Question, objective_in, Below, Attains, IsTrueAnswer, system_for, Asks}
use Rattle.opt_plan.proofs.SoughtPlans.{sought_at, list_of}

module _ (q : Question) (narrower : LiesIn (root_of q.tables) q.root) where
  below_sought : (bound : ℤ) → system.Below (system_for q) bound → Below q bound
  below_sought bound below plan sought =
      let found : (x : List ℤ) × Meets (system_for q) x × (value (system_for q) x ≡ objective_in q plan) = list_of q plan sought in
      let under : bound ≤ℤ value (system_for q) found.0 = below found.0 found.1 in
      subst (λ z. bound ≤ℤ z) found.2 under

  attains_sought : (x : List ℤ) (objective : ℤ) → system.Attains (system_for q) x objective → Attains q (plan_of (quantities q.tables) x) objective
  attains_sought x objective attains =
      let there : Attains q (plan_of (quantities q.tables) x) (value (system_for q) x) = sought_at q narrower x attains.meets in
      record { sought = there.sought; objective_is = there.objective_is ∙ attains.value_is }

  true_there : (gap : ℤ) (v : Verdict) (x : List ℤ) → system.IsTrueVerdict (system_for q) gap v x → IsTrueAnswer q gap v (plan_of (quantities q.tables) x)
  true_there gap (verdict.Plan objective bound) x h = record {
    attains = attains_sought x objective h.attains;
    bound_under = h.bound_under;
    gap_kept = h.gap_kept;
    below = below_sought bound h.below;
  }
  true_there gap verdict.NoPlan x h = λ plan sought.
      let found : (y : List ℤ) × Meets (system_for q) y × (value (system_for q) y ≡ objective_in q plan) = list_of q plan sought in
      h found.0 found.1
  true_there gap (verdict.Unfinished bound None) x h = below_sought bound h
  true_there gap (verdict.Unfinished bound (Some best)) x h = record {
    attains = attains_sought x best h.attains;
    bound_under = h.bound_under;
    below = below_sought bound h.below;
  }

pub true_answer : (s : System) (gap : ℤ) (v : Verdict) (x : List ℤ) (q : Question) → Asks s q → system.IsTrueVerdict s gap v x → IsTrueAnswer q gap v (plan_of (quantities q.tables) x)
true_answer s gap v x q asks h =
    true_there q asks.narrower gap v x (subst (λ (p : System). system.IsTrueVerdict p gap v x) asks.system h)
