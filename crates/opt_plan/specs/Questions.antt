-- What is asked of a model: the least plan by a goal, of those feasible plans that keep a cap and lie within a box. Which
-- system asks it, and when a verdict is a true answer.
use Rattle.std.specs.Prelude.{◌≡◌, List, map, Option, Some, None, ℤ, pos, ◌-ℤ◌, ◌≤ℤ◌}
use Rattle.opt_base.specs.declared.verdict.Verdict.{Verdict}
use Rattle.opt_base.specs.declared.verdict.Verdict.TheVariants as verdict
use Rattle.opt_model.specs.Tables.{Tables}
use Rattle.opt_model.specs.Quantities.{quantities}
use Rattle.opt_model.specs.Plans.{Plan, goal_terms, sum_of}
use Rattle.opt_model.specs.declared.records.Goal.{Goal}
use Rattle.opt_system.specs.Ranges.{Range, IsWithin, LiesIn}
use Rattle.opt_system.specs.Systems.{System}
use Rattle.opt_rows.specs.Systems.{system_rows, root_of, costs_of}
use Rattle.opt_rows.specs.Laws.{IsAllowed}

-- the model, the goal by which its plans are compared, the cap on their weighted shortfall, where there is one, and the box
-- in which their values lie, by the numbers of the quantities
pub record Question : Type 0 where
  pub tables : Tables
  pub goal : Goal
  pub cap : Option ℤ
  pub root : Range

-- ---- plans
-- the values that a plan gives to the quantities of a model, by their numbers
abbrev pub values_of : Tables → Plan → List ℤ
values_of t plan = map plan (quantities t)

-- the plan is one of those that are asked for
pub record IsSought (q : Question) (plan : Plan) : Type 0 where
  pub allowed : IsAllowed q.tables q.cap plan
  pub in_root : IsWithin q.root (values_of q.tables plan)

-- what a plan adds up to, by the goal of the question
abbrev pub objective_in : Question → Plan → ℤ
objective_in q plan = sum_of (goal_terms q.tables q.goal) plan

-- ---- true answers
-- no plan that is sought has an objective below the bound
abbrev pub Below : Question → ℤ → Type 0
Below q bound = (plan : Plan) → IsSought q plan → bound ≤ℤ objective_in q plan

-- a plan that is sought, of this objective
pub record Attains (q : Question) (plan : Plan) (objective : ℤ) : Type 0 where
  pub sought : IsSought q plan
  pub objective_is : objective_in q plan ≡ objective

-- a plan whose objective lies above the bound by at most the permitted gap
pub record WithinGap (q : Question) (gap : ℤ) (plan : Plan) (objective bound : ℤ) : Type 0 where
  pub attains : Attains q plan objective
  pub bound_under : pos 0 ≤ℤ (objective -ℤ bound)
  pub gap_kept : (objective -ℤ bound) ≤ℤ gap
  pub below : Below q bound

-- a plan that is known while better ones are not ruled out
pub record BestKnown (q : Question) (plan : Plan) (bound best : ℤ) : Type 0 where
  pub attains : Attains q plan best
  pub bound_under : bound ≤ℤ best
  pub below : Below q bound

-- the verdict is true of the plans that are sought, with this plan where it names an objective or a best
abbrev pub IsTrueAnswer : Question → ℤ → Verdict → Plan → Type 0
IsTrueAnswer q gap (verdict.Plan objective bound) plan = WithinGap q gap plan objective bound
IsTrueAnswer q gap verdict.NoPlan plan = (other : Plan) → IsSought q other → ⊥
IsTrueAnswer q gap (verdict.Unfinished bound None) plan = Below q bound
IsTrueAnswer q gap (verdict.Unfinished bound (Some best)) plan = BestKnown q plan bound best

-- the verdict says whether there is a plan that is sought
abbrev pub IsDecided : Question → Verdict → Type 0
IsDecided q (verdict.Plan objective bound) = (plan : Plan) × IsSought q plan
IsDecided q verdict.NoPlan = (plan : Plan) → IsSought q plan → ⊥
IsDecided q (verdict.Unfinished bound best) = ⊥

-- ---- systems
-- the system of a question: the model's own under the goal and the cap, with the box as its root
abbrev pub system_for : Question → System
system_for q = record { rows = system_rows q.tables q.cap; root = q.root; cost = costs_of q.tables q.goal }

-- the system is that of the question, whose box lies within the root of the model
pub record Asks (s : System) (q : Question) : Type 0 where
  pub system : s ≡ system_for q
  pub narrower : LiesIn (root_of q.tables) q.root
