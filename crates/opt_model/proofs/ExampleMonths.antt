-- A worked example, computed by the checker: three months of a supplier, a hub and a point, with a group, a least ration, ranges
-- that do not come out even, a lead time, throughput, handling, food kept from month to month, its cost, and a budget.
-- Expected numbers are arithmetic by hand, which stands beside them.
use Rattle.std.proofs.Common.{◌≡◌, List, [], ◌∷◌, ◌++◌, map, take, drop, Some, None, ℤ, pos, neg_ℤ, codes, refl}
use Rattle.std.specs.Fmt.{digits}
use Rattle.csv.specs.Writing.{escaped, fields_text, is_blank}
use Rattle.opt_model.specs.Settings.{Settings}
use Rattle.opt_model.specs.Tables.{Tables}
use Rattle.opt_model.specs.Quantities.{quantities, low, high}
use Rattle.opt_model.specs.Rows.{at_least, equal, rows}
use Rattle.opt_model.specs.Plans.{Plan, Feasible, plan_of, cost_of, lack_of, objective_of}
use Rattle.opt_model.specs.Limits.{term_count}
use Rattle.opt_model.specs.Texts.{plan_text}
use Rattle.opt_model.specs.Verdicts.{node_limit}
use Rattle.opt_model.specs.declared.records.Goal.TheVariants.{Cost, Shortfall}
use Rattle.opt_model.specs.declared.records.PlaceKind.TheVariants as place_kind
use Rattle.opt_model.specs.declared.quantity.Quantity.TheVariants.{Ration, Short, Buy, Ship, Keep, Feed}
use Rattle.opt_model.specs.declared.quantity.RowName.TheVariants as row
use Rattle.opt_model.proofs.Feasibility.{feasible_from_test}
use Rattle.opt_model.proofs.ExampleWords.{broken_rows, row_numbers}

abbrev months_settings : ℤ → Settings
months_settings budget = record { format = 1; months = 3; days = 30 ∷ 28 ∷ 31 ∷ []; goal = Cost; gap = pos 0; nodes = 1000000; budget = Some budget }

-- the point feeds nobody in the first month, 41 persons in the second and 33 in the third
abbrev months_model : ℤ → Tables
months_model budget = record {
  settings = months_settings budget;
  commodities = record { commodity = codes "rice"; group = Some 0; min_g = pos 95; max_g = pos 305; step_g = pos 10 }
      ∷ record { commodity = codes "oil"; group = None; min_g = pos 25; max_g = pos 25; step_g = pos 25 }
      ∷ [];
  groups = record { group = codes "cereals"; min_g = pos 100; max_g = pos 300 } ∷ [];
  nutrients = record { nutrient = codes "energy" } ∷ [];
  contents = record { commodity = 0; nutrient = 0; per_100g = pos 360 } ∷ record { commodity = 1; nutrient = 0; per_100g = pos 900 } ∷ [];
  places = record { place = codes "S"; kind = place_kind.Supplier; storage = pos 0; throughput = None; handling = pos 0; storage_cost = pos 0 }
      ∷ record { place = codes "H"; kind = place_kind.Hub; storage = pos 500; throughput = Some (pos 900); handling = pos 7; storage_cost = pos 2 }
      ∷ record { place = codes "P"; kind = place_kind.Point; storage = pos 0; throughput = None; handling = pos 3; storage_cost = pos 0 }
      ∷ [];
  offers = record { offer = codes "r1"; place = 0; commodity = 0; price = pos 400; max_kg = pos 1000; first = 1; last = 2; fee = pos 0; least = pos 0 } ∷ [];
  arcs = record { arc = codes "S-H"; from_place = 0; to_place = 1; cost = pos 20; capacity = pos 800; lead = 1 }
      ∷ record { arc = codes "H-P"; from_place = 1; to_place = 2; cost = pos 10; capacity = pos 600; lead = 0 }
      ∷ [];
  persons = record { place = 2; month = 2; persons = pos 41; basket = 0 } ∷ record { place = 2; month = 3; persons = pos 33; basket = 0 } ∷ [];
  stock = record { place = 1; commodity = 1; month = 1; kg = pos 60 } ∷ [];
  baskets = record { basket = codes "all" } ∷ [];
  needs = record { basket = 0; nutrient = 0; required = pos 1000; max_short = pos 200; weight = pos 3 } ∷ [];
}

abbrev model : Tables
model = months_model (pos 198000)

-- nothing leaves on the first arc in the third month, since it would arrive in a fourth
months_quantities : quantities model
    ≡ Ration 0 0 1 ∷ Ration 0 0 2 ∷ Ration 0 0 3 ∷ Ration 0 1 1 ∷ Ration 0 1 2 ∷ Ration 0 1 3
    ∷ Short 0 1 ∷ Short 0 2 ∷ Short 0 3
    ∷ Buy 0 1 ∷ Buy 0 2
    ∷ Ship 0 0 1 ∷ Ship 0 0 2 ∷ Ship 0 1 1 ∷ Ship 0 1 2
    ∷ Ship 1 0 1 ∷ Ship 1 0 2 ∷ Ship 1 0 3 ∷ Ship 1 1 1 ∷ Ship 1 1 2 ∷ Ship 1 1 3
    ∷ Keep 1 0 1 ∷ Keep 1 0 2 ∷ Keep 1 0 3 ∷ Keep 1 1 1 ∷ Keep 1 1 2 ∷ Keep 1 1 3
    ∷ Feed 2 0 2 ∷ Feed 2 0 3 ∷ Feed 2 1 2 ∷ Feed 2 1 3
    ∷ []
months_quantities = refl

-- 95 g are 9.5 steps of 10 g and 305 g are 30.5, so 10 to 30 steps; 25 g of oil are one step. At most
-- 41 * 28 * 300 g = 344.4 kg and 33 * 31 * 300 g = 306.9 kg of rice are handed out, 28.7 kg and 25.575 kg of oil
months_ranges : map {B = ℤ × ℤ} (λ q. (low model q, high model q)) (quantities model)
    ≡ (pos 10, pos 30) ∷ (pos 10, pos 30) ∷ (pos 10, pos 30) ∷ (pos 1, pos 1) ∷ (pos 1, pos 1) ∷ (pos 1, pos 1)
    ∷ (pos 0, pos 200) ∷ (pos 0, pos 200) ∷ (pos 0, pos 200)
    ∷ (pos 0, pos 1000) ∷ (pos 0, pos 1000)
    ∷ (pos 0, pos 800) ∷ (pos 0, pos 800) ∷ (pos 0, pos 800) ∷ (pos 0, pos 800)
    ∷ (pos 0, pos 600) ∷ (pos 0, pos 600) ∷ (pos 0, pos 600) ∷ (pos 0, pos 600) ∷ (pos 0, pos 600) ∷ (pos 0, pos 600)
    ∷ (pos 0, pos 500) ∷ (pos 0, pos 500) ∷ (pos 0, pos 500) ∷ (pos 0, pos 500) ∷ (pos 0, pos 500) ∷ (pos 0, pos 500)
    ∷ (pos 0, pos 345) ∷ (pos 0, pos 307) ∷ (pos 0, pos 29) ∷ (pos 0, pos 26)
    ∷ []
months_ranges = refl

-- a step of rice gives 360 * 10 of energy times 100, one of oil 900 * 25; 41 * 28 = 1,148 and 33 * 31 = 1,023 rations are handed out
months_diet_rows : map (row_numbers model) (take 17 (rows model))
    ≡ (row.Nutrient 0 0 1, at_least, (0, pos 3600) ∷ (3, pos 22500) ∷ (6, pos 100) ∷ [], pos 100000)
    ∷ (row.Nutrient 0 0 2, at_least, (1, pos 3600) ∷ (4, pos 22500) ∷ (7, pos 100) ∷ [], pos 100000)
    ∷ (row.Nutrient 0 0 3, at_least, (2, pos 3600) ∷ (5, pos 22500) ∷ (8, pos 100) ∷ [], pos 100000)
    ∷ (row.GroupLow 0 0 1, at_least, (0, pos 10) ∷ [], pos 100)
    ∷ (row.GroupHigh 0 0 1, at_least, (0, neg_ℤ (pos 10)) ∷ [], neg_ℤ (pos 300))
    ∷ (row.GroupLow 0 0 2, at_least, (1, pos 10) ∷ [], pos 100)
    ∷ (row.GroupHigh 0 0 2, at_least, (1, neg_ℤ (pos 10)) ∷ [], neg_ℤ (pos 300))
    ∷ (row.GroupLow 0 0 3, at_least, (2, pos 10) ∷ [], pos 100)
    ∷ (row.GroupHigh 0 0 3, at_least, (2, neg_ℤ (pos 10)) ∷ [], neg_ℤ (pos 300))
    ∷ (row.HandoutLow 2 0 2, at_least, (1, neg_ℤ (pos 11480)) ∷ (27, pos 1000) ∷ [], pos 0)
    ∷ (row.HandoutHigh 2 0 2, at_least, (1, pos 11480) ∷ (27, neg_ℤ (pos 1000)) ∷ [], neg_ℤ (pos 999))
    ∷ (row.HandoutLow 2 0 3, at_least, (2, neg_ℤ (pos 10230)) ∷ (28, pos 1000) ∷ [], pos 0)
    ∷ (row.HandoutHigh 2 0 3, at_least, (2, pos 10230) ∷ (28, neg_ℤ (pos 1000)) ∷ [], neg_ℤ (pos 999))
    ∷ (row.HandoutLow 2 1 2, at_least, (4, neg_ℤ (pos 28700)) ∷ (29, pos 1000) ∷ [], pos 0)
    ∷ (row.HandoutHigh 2 1 2, at_least, (4, pos 28700) ∷ (29, neg_ℤ (pos 1000)) ∷ [], neg_ℤ (pos 999))
    ∷ (row.HandoutLow 2 1 3, at_least, (5, neg_ℤ (pos 25575)) ∷ (30, pos 1000) ∷ [], pos 0)
    ∷ (row.HandoutHigh 2 1 3, at_least, (5, pos 25575) ∷ (30, neg_ℤ (pos 1000)) ∷ [], neg_ℤ (pos 999))
    ∷ []
months_diet_rows = refl

-- what left the supplier arrives at the hub a month later, and what the hub kept is there in the next month
months_balances : map (row_numbers model) (take 18 (drop 17 (rows model)))
    ≡ (row.Balance 0 0 1, equal, (9, pos 1) ∷ (11, neg_ℤ (pos 1)) ∷ [], pos 0)
    ∷ (row.Balance 0 0 2, equal, (10, pos 1) ∷ (12, neg_ℤ (pos 1)) ∷ [], pos 0)
    ∷ (row.Balance 0 0 3, equal, [], pos 0)
    ∷ (row.Balance 0 1 1, equal, (13, neg_ℤ (pos 1)) ∷ [], pos 0)
    ∷ (row.Balance 0 1 2, equal, (14, neg_ℤ (pos 1)) ∷ [], pos 0)
    ∷ (row.Balance 0 1 3, equal, [], pos 0)
    ∷ (row.Balance 1 0 1, equal, (15, neg_ℤ (pos 1)) ∷ (21, neg_ℤ (pos 1)) ∷ [], pos 0)
    ∷ (row.Balance 1 0 2, equal, (11, pos 1) ∷ (16, neg_ℤ (pos 1)) ∷ (21, pos 1) ∷ (22, neg_ℤ (pos 1)) ∷ [], pos 0)
    ∷ (row.Balance 1 0 3, equal, (12, pos 1) ∷ (17, neg_ℤ (pos 1)) ∷ (22, pos 1) ∷ (23, neg_ℤ (pos 1)) ∷ [], pos 0)
    ∷ (row.Balance 1 1 1, equal, (18, neg_ℤ (pos 1)) ∷ (24, neg_ℤ (pos 1)) ∷ [], neg_ℤ (pos 60))
    ∷ (row.Balance 1 1 2, equal, (13, pos 1) ∷ (19, neg_ℤ (pos 1)) ∷ (24, pos 1) ∷ (25, neg_ℤ (pos 1)) ∷ [], pos 0)
    ∷ (row.Balance 1 1 3, equal, (14, pos 1) ∷ (20, neg_ℤ (pos 1)) ∷ (25, pos 1) ∷ (26, neg_ℤ (pos 1)) ∷ [], pos 0)
    ∷ (row.Balance 2 0 1, equal, (15, pos 1) ∷ [], pos 0)
    ∷ (row.Balance 2 0 2, equal, (16, pos 1) ∷ (27, neg_ℤ (pos 1)) ∷ [], pos 0)
    ∷ (row.Balance 2 0 3, equal, (17, pos 1) ∷ (28, neg_ℤ (pos 1)) ∷ [], pos 0)
    ∷ (row.Balance 2 1 1, equal, (18, pos 1) ∷ [], pos 0)
    ∷ (row.Balance 2 1 2, equal, (19, pos 1) ∷ (29, neg_ℤ (pos 1)) ∷ [], pos 0)
    ∷ (row.Balance 2 1 3, equal, (20, pos 1) ∷ (30, neg_ℤ (pos 1)) ∷ [], pos 0)
    ∷ []
months_balances = refl

-- the last rows: arcs in the months of departure, storage and throughput of the hub, and the budget; a kilogram costs 20 + 7 on
-- the first arc, 10 + 3 on the second, and 2 a month at the hub
months_last_rows : map (row_numbers model) (drop 35 (rows model))
    ≡ (row.Arc 0 1, at_least, (11, neg_ℤ (pos 1)) ∷ (13, neg_ℤ (pos 1)) ∷ [], neg_ℤ (pos 800))
    ∷ (row.Arc 0 2, at_least, (12, neg_ℤ (pos 1)) ∷ (14, neg_ℤ (pos 1)) ∷ [], neg_ℤ (pos 800))
    ∷ (row.Arc 1 1, at_least, (15, neg_ℤ (pos 1)) ∷ (18, neg_ℤ (pos 1)) ∷ [], neg_ℤ (pos 600))
    ∷ (row.Arc 1 2, at_least, (16, neg_ℤ (pos 1)) ∷ (19, neg_ℤ (pos 1)) ∷ [], neg_ℤ (pos 600))
    ∷ (row.Arc 1 3, at_least, (17, neg_ℤ (pos 1)) ∷ (20, neg_ℤ (pos 1)) ∷ [], neg_ℤ (pos 600))
    ∷ (row.Storage 1 1, at_least, (21, neg_ℤ (pos 1)) ∷ (24, neg_ℤ (pos 1)) ∷ [], neg_ℤ (pos 500))
    ∷ (row.Storage 1 2, at_least, (22, neg_ℤ (pos 1)) ∷ (25, neg_ℤ (pos 1)) ∷ [], neg_ℤ (pos 500))
    ∷ (row.Storage 1 3, at_least, (23, neg_ℤ (pos 1)) ∷ (26, neg_ℤ (pos 1)) ∷ [], neg_ℤ (pos 500))
    ∷ (row.Throughput 1 1, at_least, [], neg_ℤ (pos 900))
    ∷ (row.Throughput 1 2, at_least, (11, neg_ℤ (pos 1)) ∷ (13, neg_ℤ (pos 1)) ∷ [], neg_ℤ (pos 900))
    ∷ (row.Throughput 1 3, at_least, (12, neg_ℤ (pos 1)) ∷ (14, neg_ℤ (pos 1)) ∷ [], neg_ℤ (pos 900))
    ∷ (
      row.Budget,
      at_least,
      (9, neg_ℤ (pos 400)) ∷ (10, neg_ℤ (pos 400))
          ∷ (11, neg_ℤ (pos 27)) ∷ (12, neg_ℤ (pos 27)) ∷ (13, neg_ℤ (pos 27)) ∷ (14, neg_ℤ (pos 27))
          ∷ (15, neg_ℤ (pos 13)) ∷ (16, neg_ℤ (pos 13)) ∷ (17, neg_ℤ (pos 13)) ∷ (18, neg_ℤ (pos 13)) ∷ (19, neg_ℤ (pos 13)) ∷ (20, neg_ℤ (pos 13))
          ∷ (21, neg_ℤ (pos 2)) ∷ (22, neg_ℤ (pos 2)) ∷ (23, neg_ℤ (pos 2)) ∷ (24, neg_ℤ (pos 2)) ∷ (25, neg_ℤ (pos 2)) ∷ (26, neg_ℤ (pos 2))
          ∷ [],
      neg_ℤ (pos 198000),
    )
    ∷ []
months_last_rows = refl

-- the diet has 9 + 6 + 16 coefficients; the balances of supplier, hub and point have 6, 20 and 10; arcs 10, storage 6, throughput 4,
-- and the budget 2 + 4 + 6 + 6
months_terms : term_count model ≡ 105
months_terms = refl

-- 2^24 / 47 rows are 356,962 nodes and a rest of 2
months_nodes : node_limit model ≡ 356962
months_nodes = refl

-- rations of 220, 210 and 200 g give 79,200 + 22,500 = 101,700, 98,100 and 94,500 of the 100,000 that are needed, so 19 and 55
-- units are lacking; 1,148 * 210 g = 241.08 kg, 1,023 * 200 g = 204.6 kg, 1,148 * 25 g = 28.7 kg and 1,023 * 25 g = 25.575 kg are
-- handed out, rounded up; 242 + 205 kg of rice are bought in the first month, and 205 of them kept at the hub in the second; of
-- 60 kg of oil the hub keeps 60, then 60 - 29 = 31, then 31 - 26 = 5
abbrev months_values : List ℤ
months_values =
    pos 22 ∷ pos 21 ∷ pos 20 ∷ pos 1 ∷ pos 1 ∷ pos 1
    ∷ pos 0 ∷ pos 19 ∷ pos 55
    ∷ pos 447 ∷ pos 0
    ∷ pos 447 ∷ pos 0 ∷ pos 0 ∷ pos 0
    ∷ pos 0 ∷ pos 242 ∷ pos 205 ∷ pos 0 ∷ pos 29 ∷ pos 26
    ∷ pos 0 ∷ pos 205 ∷ pos 0 ∷ pos 60 ∷ pos 31 ∷ pos 5
    ∷ pos 242 ∷ pos 205 ∷ pos 29 ∷ pos 26
    ∷ []

abbrev months_plan : Plan
months_plan = plan_of (quantities model) months_values

months_plan_is_feasible : Feasible model months_plan
months_plan_is_feasible = feasible_from_test model months_values refl

-- 447 * 400 = 178,800 are bought; 447 * 27 = 12,069 and (242 + 205 + 29 + 26) * 13 = 6,526 shipped; (205 + 60 + 31 + 5) * 2 = 602 kept
months_plan_costs : cost_of model months_plan ≡ pos 197997
months_plan_costs = refl

-- 3 * (19 + 55)
months_plan_lacks : lack_of model months_plan ≡ pos 222
months_plan_lacks = refl

months_objectives : (objective_of model months_plan ≡ pos 197997) × (objective_of (record model { settings = record (months_settings (pos 0)) { goal = Shortfall } }) months_plan ≡ pos 222)
months_objectives = (refl, refl)

-- a budget of a mill less than the cost is broken by one
months_over_budget : broken_rows (months_model (pos 197996)) months_plan ≡ (row.Budget, 1) ∷ []
months_over_budget = refl

months_plan_file : plan_text model months_plan
    ≡ codes "quantity,name,commodity,month,amount" ++ 10 ∷ codes "ration,rice,,1,220" ++ 10 ∷ codes "ration,rice,,2,210" ++ 10 ∷ codes "ration,rice,,3,200" ++ 10
    ∷ codes "ration,oil,,1,25" ++ 10 ∷ codes "ration,oil,,2,25" ++ 10 ∷ codes "ration,oil,,3,25" ++ 10 ∷ codes "short,energy,,2,19" ++ 10 ∷ codes "short,energy,,3,55" ++ 10
    ∷ codes "buy,r1,,1,447" ++ 10 ∷ codes "ship,S-H,rice,1,447" ++ 10 ∷ codes "ship,H-P,rice,2,242" ++ 10 ∷ codes "ship,H-P,rice,3,205" ++ 10
    ∷ codes "ship,H-P,oil,2,29" ++ 10 ∷ codes "ship,H-P,oil,3,26" ++ 10 ∷ codes "keep,H,rice,2,205" ++ 10 ∷ codes "keep,H,oil,1,60" ++ 10 ∷ codes "keep,H,oil,2,31" ++ 10
    ∷ codes "keep,H,oil,3,5" ++ 10 ∷ codes "feed,P,rice,2,242" ++ 10 ∷ codes "feed,P,rice,3,205" ++ 10 ∷ codes "feed,P,oil,2,29" ++ 10 ∷ codes "feed,P,oil,3,26" ++ 10 ∷ []
unfolding digits is_blank fields_text escaped
months_plan_file = refl
