-- The lists of values that meet the system of a question are those of the plans that are sought.
use Rattle.std.proofs.Common.{◌≡◌, List, ℤ, refl, sym, subst}
use Rattle.opt_model.specs.Quantities.{quantities}
use Rattle.opt_model.specs.Plans.{Plan, Feasible, plan_of}
use Rattle.opt_system.specs.Ranges.{IsWithin, LiesIn}
use Rattle.opt_system.specs.Systems.{Meets, value}
use Rattle.opt_system.proofs.CutLemmas.{IsWithin-LiesIn}
use Rattle.opt_rows.specs.Systems.{root_of, system_of}
use Rattle.opt_rows.specs.Laws.{IsAllowedList, IsPlanOfJust, IsMetBy, SpeaksFor}
use Rattle.opt_rows.proofs.Law.{plan_of_values}
use Rattle.opt_rows.proofs.Distinct.{quantities_distinct, system_speaks}
use Rattle.opt_plan.specs.Questions.{Question, values_of, IsSought, objective_in, Attains, system_for}

module _ (q : Question) where
  -- a feasible plan is the plan of its values alone
  pub own_values : (plan : Plan) → Feasible q.tables plan → IsPlanOfJust (quantities q.tables) plan (values_of q.tables plan)
  own_values plan feasible = plan_of_values (quantities q.tables) (quantities_distinct q.tables) plan feasible.lists_only

  law : SpeaksFor q.tables q.goal q.cap (system_of q.tables q.goal q.cap)
  law = system_speaks q.tables q.goal q.cap

  -- the plan of a list that meets the system is sought, and has its value as objective
  pub sought_at : LiesIn (root_of q.tables) q.root → (x : List ℤ) → Meets (system_for q) x → Attains q (plan_of (quantities q.tables) x) (value (system_for q) x)
  sought_at narrower x meets =
      let plan : Plan = plan_of (quantities q.tables) x in
      let whole : Meets (system_of q.tables q.goal q.cap) x = record {
        in_range = IsWithin-LiesIn (root_of q.tables) q.root x narrower meets.in_range;
        rows_hold = meets.rows_hold;
      } in
      let listed : IsAllowedList q.tables q.cap x = (law.meets x).0 whole in
      let same : x ≡ values_of q.tables plan = (own_values plan listed.allowed.feasible).only x listed.one_each refl in
      record {
        sought = record { allowed = listed.allowed; in_root = subst (IsWithin q.root) same meets.in_range };
        objective_is = sym (law.costs x listed.one_each);
      }

  -- a plan that is sought is that of a list that meets the system, with its objective as value
  pub list_of : (plan : Plan) → IsSought q plan → (x : List ℤ) × Meets (system_for q) x × (value (system_for q) x ≡ objective_in q plan)
  list_of plan sought =
      let found : (x : List ℤ) × IsMetBy q.tables q.goal (system_of q.tables q.goal q.cap) plan x = law.listed plan sought.allowed in
      let just : IsPlanOfJust (quantities q.tables) plan found.0 = found.1.plan_of_just in
      let same : found.0 ≡ values_of q.tables plan = (own_values plan sought.allowed.feasible).only found.0 just.one_each just.same in (
        found.0,
        record { in_range = subst (IsWithin q.root) (sym same) sought.in_root; rows_hold = found.1.met.rows_hold },
        found.1.costs,
      )
