-- Worked examples, each computed by the checker: a line of one supplier and one point, with a lead time, with storage, and
-- with kilograms that are rounded up. Expected numbers are arithmetic by hand. A wrong definition fails one of them.
use Rattle.std.proofs.Common.{◌≡◌, ℕ, List, [], ◌∷◌, map, take, drop, None, Ok, ℤ, pos, neg_ℤ, codes, refl}
use Rattle.opt_model.specs.Settings.{Settings}
use Rattle.opt_model.specs.Tables.{Tables}
use Rattle.opt_model.specs.Quantities.{quantities, low, high}
use Rattle.opt_model.specs.Rows.{at_least, equal, rows}
use Rattle.opt_model.specs.Plans.{Plan, Feasible, plan_of, cost_of}
use Rattle.opt_model.specs.Limits.{term_count, within_limits}
use Rattle.opt_model.specs.declared.records.Goal.TheVariants.{Cost}
use Rattle.opt_model.specs.declared.records.PlaceKind.TheVariants as place_kind
use Rattle.opt_model.specs.declared.records.Arc.{Arc}
use Rattle.opt_model.specs.declared.records.Offer.{Offer}
use Rattle.opt_model.specs.declared.records.Place.{Place}
use Rattle.opt_model.specs.declared.quantity.Quantity.TheVariants.{Ration, Short, Buy, Ship, Keep, Feed}
use Rattle.opt_model.specs.declared.quantity.RowName.TheVariants as row
use Rattle.opt_model.proofs.Feasibility.{feasible_from_test}
use Rattle.opt_model.proofs.ExampleWords.{broken_rows, row_numbers}

-- one supplier, one point and rice: 450 mills a kilogram, an arc of 50, 1,000 persons for 30 days who need 2100 of energy
abbrev pub line_settings : Settings
line_settings = record { format = 1; months = 1; days = 30 ∷ []; goal = Cost; gap = pos 0; nodes = 1000; budget = None }

abbrev pub line_arc : ℕ → Arc
line_arc lead = record { arc = codes "a1"; from_place = 0; to_place = 1; cost = pos 50; capacity = pos 20000; lead = lead }

abbrev pub line_offer : ℕ → ℤ → ℤ → Offer
line_offer last fee least = record { offer = codes "o1"; place = 0; commodity = 0; price = pos 450; max_kg = pos 20000; first = 1; last = last; fee = fee; least = least }

abbrev pub line_point : ℤ → Place
line_point storage = record { place = codes "P"; kind = place_kind.Point; storage = storage; throughput = None; handling = pos 0; storage_cost = pos 0 }

abbrev pub line_model : Tables
line_model = record {
  settings = line_settings;
  commodities = record { commodity = codes "rice"; group = None; min_g = pos 0; max_g = pos 600; step_g = pos 10 } ∷ [];
  groups = [];
  nutrients = record { nutrient = codes "energy" } ∷ [];
  contents = record { commodity = 0; nutrient = 0; per_100g = pos 360 } ∷ [];
  places = record { place = codes "S"; kind = place_kind.Supplier; storage = pos 0; throughput = None; handling = pos 0; storage_cost = pos 0 } ∷ line_point (pos 0) ∷ [];
  offers = line_offer 1 (pos 0) (pos 0) ∷ [];
  arcs = line_arc 0 ∷ [];
  persons = record { place = 1; month = 1; persons = pos 1000; basket = 0 } ∷ [];
  stock = [];
  baskets = record { basket = codes "all" } ∷ [];
  needs = record { basket = 0; nutrient = 0; required = pos 2100; max_short = pos 0; weight = pos 1 } ∷ [];
}

line_quantities : quantities line_model ≡ Ration 0 0 1 ∷ Short 0 1 ∷ Buy 0 1 ∷ Ship 0 0 1 ∷ Feed 1 0 1 ∷ []
line_quantities = refl

line_ranges : map {B = ℤ × ℤ} (λ q. (low line_model q, high line_model q)) (quantities line_model)
    ≡ (pos 0, pos 60) ∷ (pos 0, pos 0) ∷ (pos 0, pos 20000) ∷ (pos 0, pos 20000) ∷ (pos 0, pos 18000) ∷ []
line_ranges = refl

line_rows : map (row_numbers line_model) (rows line_model)
    ≡ (row.Nutrient 0 0 1, at_least, (0, pos 3600) ∷ (1, pos 100) ∷ [], pos 210000)
    ∷ (row.HandoutLow 1 0 1, at_least, (0, neg_ℤ (pos 300000)) ∷ (4, pos 1000) ∷ [], pos 0)
    ∷ (row.HandoutHigh 1 0 1, at_least, (0, pos 300000) ∷ (4, neg_ℤ (pos 1000)) ∷ [], neg_ℤ (pos 999))
    ∷ (row.Balance 0 0 1, equal, (2, pos 1) ∷ (3, neg_ℤ (pos 1)) ∷ [], pos 0)
    ∷ (row.Balance 1 0 1, equal, (3, pos 1) ∷ (4, neg_ℤ (pos 1)) ∷ [], pos 0)
    ∷ (row.Arc 0 1, at_least, (3, neg_ℤ (pos 1)) ∷ [], neg_ℤ (pos 20000))
    ∷ []
line_rows = refl

-- 2 + 2 + 2 + 2 + 2 + 1 coefficients, well within the limits
line_is_within_limits : (term_count line_model ≡ 11) × (within_limits line_model ≡ Ok line_model)
line_is_within_limits = (refl, refl)

-- 59 steps of 10 g, and 17,700 kg bought, shipped and handed out
abbrev line_plan : Plan
line_plan = plan_of (quantities line_model) (pos 59 ∷ pos 0 ∷ pos 17700 ∷ pos 17700 ∷ pos 17700 ∷ [])

line_plan_is_feasible : Feasible line_model line_plan
line_plan_is_feasible = feasible_from_test line_model (pos 59 ∷ pos 0 ∷ pos 17700 ∷ pos 17700 ∷ pos 17700 ∷ []) refl

line_plan_costs : cost_of line_model line_plan ≡ pos 8850000
line_plan_costs = refl

-- the same plan with one kilogram less handed out
line_plan_short_of_a_kilogram : broken_rows line_model (plan_of (quantities line_model) (pos 59 ∷ pos 0 ∷ pos 17700 ∷ pos 17700 ∷ pos 17699 ∷ []))
    ≡ (row.HandoutLow 1 0 1, 1000) ∷ (row.Balance 1 0 1, 1) ∷ []
line_plan_short_of_a_kilogram = refl

-- the same line over two months with a lead time of one, and food at the point for the first month
abbrev lead_model : Tables
lead_model = record line_model {
  settings = record line_settings { months = 2; days = 30 ∷ 30 ∷ [] };
  offers = line_offer 2 (pos 0) (pos 0) ∷ [];
  arcs = line_arc 1 ∷ [];
  persons = record { place = 1; month = 1; persons = pos 1000; basket = 0 } ∷ record { place = 1; month = 2; persons = pos 1000; basket = 0 } ∷ [];
  stock = record { place = 1; commodity = 0; month = 1; kg = pos 17700 } ∷ [];
}

lead_quantities : quantities lead_model ≡ Ration 0 0 1 ∷ Ration 0 0 2 ∷ Short 0 1 ∷ Short 0 2 ∷ Buy 0 1 ∷ Buy 0 2 ∷ Ship 0 0 1 ∷ Feed 1 0 1 ∷ Feed 1 0 2 ∷ []
lead_quantities = refl

-- the balances of the point: what leaves in the first month arrives in the second
lead_balances : map (row_numbers lead_model) (take 2 (drop 8 (rows lead_model)))
    ≡ (row.Balance 1 0 1, equal, (7, neg_ℤ (pos 1)) ∷ [], neg_ℤ (pos 17700))
    ∷ (row.Balance 1 0 2, equal, (6, pos 1) ∷ (8, neg_ℤ (pos 1)) ∷ [], pos 0)
    ∷ []
lead_balances = refl

abbrev lead_values : List ℤ
lead_values = pos 59 ∷ pos 59 ∷ pos 0 ∷ pos 0 ∷ pos 17700 ∷ pos 0 ∷ pos 17700 ∷ pos 17700 ∷ pos 17700 ∷ []

lead_plan_is_feasible : Feasible lead_model (plan_of (quantities lead_model) lead_values)
lead_plan_is_feasible = feasible_from_test lead_model lead_values refl

lead_plan_costs : cost_of lead_model (plan_of (quantities lead_model) lead_values) ≡ pos 8850000
lead_plan_costs = refl

-- the line with food at the point: 18,100 kg are more than a ration of 600 g hands out
abbrev stock_model : ℤ → Tables
stock_model storage = record line_model {
  places = record { place = codes "S"; kind = place_kind.Supplier; storage = pos 0; throughput = None; handling = pos 0; storage_cost = pos 0 } ∷ line_point storage ∷ [];
  stock = record { place = 1; commodity = 0; month = 1; kg = pos 18100 } ∷ [];
}

-- without storage nothing is kept
no_storage : quantities (stock_model (pos 0)) ≡ Ration 0 0 1 ∷ Short 0 1 ∷ Buy 0 1 ∷ Ship 0 0 1 ∷ Feed 1 0 1 ∷ []
no_storage = refl

-- with a storage of 100 kg the rest is kept
storage_quantities : quantities (stock_model (pos 100)) ≡ Ration 0 0 1 ∷ Short 0 1 ∷ Buy 0 1 ∷ Ship 0 0 1 ∷ Keep 1 0 1 ∷ Feed 1 0 1 ∷ []
storage_quantities = refl

storage_plan_is_feasible : Feasible (stock_model (pos 100)) (plan_of (quantities (stock_model (pos 100))) (pos 60 ∷ pos 0 ∷ pos 0 ∷ pos 0 ∷ pos 100 ∷ pos 18000 ∷ []))
storage_plan_is_feasible = feasible_from_test (stock_model (pos 100)) (pos 60 ∷ pos 0 ∷ pos 0 ∷ pos 0 ∷ pos 100 ∷ pos 18000 ∷ []) refl

-- the row of storage: at most 100 kg are kept
storage_row : map (row_numbers (stock_model (pos 100))) (drop 6 (rows (stock_model (pos 100)))) ≡ (row.Storage 1 1, at_least, (4, neg_ℤ (pos 1)) ∷ [], neg_ℤ (pos 100)) ∷ []
storage_row = refl

-- 7 persons get 10 g a day for 30 days: 2,100 g, which are 3 kg rounded up
abbrev few_model : Tables
few_model = record line_model {
  persons = record { place = 1; month = 1; persons = pos 7; basket = 0 } ∷ [];
  needs = [];
}

abbrev few_values : ℤ → List ℤ
few_values kg = pos 1 ∷ kg ∷ kg ∷ kg ∷ []

few_hand_out_three : Feasible few_model (plan_of (quantities few_model) (few_values (pos 3)))
few_hand_out_three = feasible_from_test few_model (few_values (pos 3)) refl

few_break_at_two : broken_rows few_model (plan_of (quantities few_model) (few_values (pos 2))) ≡ (row.HandoutLow 1 0 1, 100) ∷ []
few_break_at_two = refl

few_break_at_four : broken_rows few_model (plan_of (quantities few_model) (few_values (pos 4))) ≡ (row.HandoutHigh 1 0 1, 901) ∷ []
few_break_at_four = refl
