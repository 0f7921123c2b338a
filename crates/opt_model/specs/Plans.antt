-- Plans, and which of them are feasible.
use Rattle.std.specs.Prelude.{◌≡◌, ◌≢◌, ℕ, List, [], ◌∷◌, All, Contains, ℤ, pos, ◌+ℤ◌, ◌*ℤ◌, ◌≤ℤ◌, slice_index_or}
use Rattle.std.specs.List.{position}
use Rattle.std.specs.Option.{option_map_or}
use Rattle.opt_model.specs.Tables.{Tables}
use Rattle.opt_model.specs.Quantities.{quantities, low, high, same_quantity, step_of}
use Rattle.opt_model.specs.Rows.{Terms, Relation, at_least, equal, Row, rows, cost_terms, lack_terms}
use Rattle.opt_model.specs.declared.records.Goal.{Goal}
use Rattle.opt_model.specs.declared.records.Goal.TheVariants.{Cost, Shortfall}
use Rattle.opt_model.specs.declared.quantity.Quantity.{Quantity}
use Rattle.opt_model.specs.declared.quantity.Quantity.TheVariants.{Ration}

-- a plan gives each quantity a whole number, 0 where it lists nothing; so plans with the same values are the same
abbrev pub Plan : Type 0
Plan = Quantity → ℤ

-- the ration of a commodity in a basket, in grams per person and day
abbrev pub grams_of : Tables → Plan → ℕ → ℕ → ℕ → ℤ
grams_of t plan basket commodity month = step_of t commodity *ℤ plan (Ration basket commodity month)

-- the sum of the terms' coefficients times the plan's values
abbrev pub sum_of : Terms → Plan → ℤ
sum_of [] plan = pos 0
sum_of (term ∷ terms) plan = term.1 *ℤ plan term.0 +ℤ sum_of terms plan

-- a sum stands to a right side as a row says
abbrev pub Stands : Relation → ℤ → ℤ → Type 0
Stands at_least left right = right ≤ℤ left
Stands equal left right = left ≡ right

-- a plan meets a row
abbrev pub Holds : Plan → Row → Type 0
Holds plan r = Stands r.relation (sum_of r.left plan) r.right

-- a plan is possible: it lists existing quantities alone, each within its range, and meets every row
pub record Feasible (t : Tables) (plan : Plan) : Type 0 where
  pub lists_only : (q : Quantity) → plan q ≢ pos 0 → Contains (quantities t) q
  pub in_range : All (λ q. (low t q ≤ℤ plan q) × (plan q ≤ℤ high t q)) (quantities t)
  pub rows_hold : All (Holds plan) (rows t)

-- the terms of the objective that the settings name
abbrev pub goal_terms : Tables → Goal → Terms
goal_terms t Cost = cost_terms t
goal_terms t Shortfall = lack_terms t

-- what a plan costs, in mills
abbrev pub cost_of : Tables → Plan → ℤ
cost_of t plan = sum_of (cost_terms t) plan

-- what a plan lacks, in weighted shortfall
abbrev pub lack_of : Tables → Plan → ℤ
lack_of t plan = sum_of (lack_terms t) plan

-- the objective of a plan
abbrev pub objective_of : Tables → Plan → ℤ
objective_of t plan = sum_of (goal_terms t t.settings.goal) plan

-- no feasible plan's objective lies below the bound
abbrev pub Below : Tables → ℤ → Type 0
Below t bound = (plan : Plan) → Feasible t plan → bound ≤ℤ objective_of t plan

-- the plan of a list of values, one for each quantity of a list
abbrev pub plan_of : List Quantity → List ℤ → Plan
plan_of qs xs q = option_map_or (λ number. slice_index_or xs number (pos 0)) (position (same_quantity q) qs) (pos 0)
