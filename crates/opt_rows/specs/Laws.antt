-- What a system says of a model: which lists of values meet it, and what they cost.
use Rattle.std.specs.Prelude.{◌≡◌, ◌↔◌, List, length, Option, IfSome, ℤ, ◌≤ℤ◌}
use Rattle.opt_model.specs.Tables.{Tables}
use Rattle.opt_model.specs.Quantities.{quantities}
use Rattle.opt_model.specs.Plans.{Plan, Feasible, goal_terms, lack_of, sum_of, plan_of}
use Rattle.opt_model.specs.declared.records.Goal.{Goal}
use Rattle.opt_model.specs.declared.quantity.Quantity.{Quantity}
use Rattle.opt_system.specs.Systems.{System, Meets, value}

-- the plan's weighted shortfall is at most the cap, where one is given
abbrev pub KeepsCap : Tables → Option ℤ → Plan → Type 0
KeepsCap t cap plan = IfSome cap (λ most. lack_of t plan ≤ℤ most)

-- the plan is feasible and keeps the cap
pub record IsAllowed (t : Tables) (cap : Option ℤ) (plan : Plan) : Type 0 where
  pub feasible : Feasible t plan
  pub capped : KeepsCap t cap plan

-- the list has one value for each quantity, and its plan is allowed
pub record IsAllowedList (t : Tables) (cap : Option ℤ) (x : List ℤ) : Type 0 where
  pub one_each : length x ≡ length (quantities t)
  pub allowed : IsAllowed t cap (plan_of (quantities t) x)

-- the plan is that of these values for these quantities, and of no others
pub record IsPlanOfJust (qs : List Quantity) (plan : Plan) (values : List ℤ) : Type 0 where
  pub one_each : length values ≡ length qs
  pub same : plan_of qs values ≡ plan
  pub only : (x : List ℤ) → length x ≡ length qs → plan_of qs x ≡ plan → x ≡ values

-- a list of values that meets the system, with the plan that is its own, and the value that is the plan's goal
pub record IsMetBy (t : Tables) (goal : Goal) (p : System) (plan : Plan) (values : List ℤ) : Type 0 where
  pub plan_of_just : IsPlanOfJust (quantities t) plan values
  pub met : Meets p values
  pub costs : value p values ≡ sum_of (goal_terms t goal) plan

-- the system says just what the model does, under a goal and a cap: a list of values meets it exactly where its plan is allowed,
-- and then costs what the plan adds up to; each allowed plan is the plan of just one list
pub record SpeaksFor (t : Tables) (goal : Goal) (cap : Option ℤ) (p : System) : Type 0 where
  pub meets : (x : List ℤ) → Meets p x ↔ IsAllowedList t cap x
  pub costs : (x : List ℤ) → length x ≡ length (quantities t) → value p x ≡ sum_of (goal_terms t goal) (plan_of (quantities t) x)
  pub listed : (plan : Plan) → IsAllowed t cap plan → (values : List ℤ) × IsMetBy t goal p plan values
