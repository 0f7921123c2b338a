-- Worked examples, each computed by the checker: two baskets in format 2, and offers with a fee and a least lot in format 3.
-- Expected numbers are arithmetic by hand, which stands beside them.
use Rattle.std.proofs.Common.{◌≡◌, List, [], ◌∷◌, ◌++◌, map, drop, None, ℤ, pos, neg_ℤ, codes, refl}
use Rattle.std.specs.Fmt.{digits}
use Rattle.csv.specs.Writing.{escaped, fields_text, is_blank}
use Rattle.opt_model.specs.Tables.{Tables}
use Rattle.opt_model.specs.Quantities.{quantities, low, high}
use Rattle.opt_model.specs.Rows.{at_least, equal, rows}
use Rattle.opt_model.specs.Plans.{Plan, Feasible, plan_of, cost_of, lack_of}
use Rattle.opt_model.specs.Texts.{plan_text}
use Rattle.opt_model.specs.declared.records.PlaceKind.TheVariants as place_kind
use Rattle.opt_model.specs.declared.quantity.Quantity.TheVariants.{Ration, Short, Buy, Ship, Keep, Feed, Order}
use Rattle.opt_model.specs.declared.quantity.RowName.TheVariants as row
use Rattle.opt_model.proofs.Feasibility.{feasible_from_test}
use Rattle.opt_model.proofs.ExampleWords.{broken_rows, row_numbers}
use Rattle.opt_model.proofs.Examples.{line_model, line_offer, line_settings}

-- two baskets: 600 persons who need 2100 and 400 who need 1800
abbrev baskets_model : Tables
baskets_model = record line_model {
  settings = record line_settings { format = 2 };
  persons = record { place = 1; month = 1; persons = pos 600; basket = 0 } ∷ record { place = 1; month = 1; persons = pos 400; basket = 1 } ∷ [];
  baskets = record { basket = codes "A" } ∷ record { basket = codes "B" } ∷ [];
  needs = record { basket = 0; nutrient = 0; required = pos 2100; max_short = pos 0; weight = pos 1 } ∷ record { basket = 1; nutrient = 0; required = pos 1800; max_short = pos 0; weight = pos 1 } ∷ [];
}

baskets_quantities : quantities baskets_model ≡ Ration 0 0 1 ∷ Ration 1 0 1 ∷ Short 0 1 ∷ Short 1 1 ∷ Buy 0 1 ∷ Ship 0 0 1 ∷ Feed 1 0 1 ∷ []
baskets_quantities = refl

-- 590 and 500 g a day: 600 * 30 * 590 g are 10,620 kg, 400 * 30 * 500 g are 6,000 kg, together 16,620 kg
abbrev baskets_values : List ℤ
baskets_values = pos 59 ∷ pos 50 ∷ pos 0 ∷ pos 0 ∷ pos 16620 ∷ pos 16620 ∷ pos 16620 ∷ []

baskets_plan_is_feasible : Feasible baskets_model (plan_of (quantities baskets_model) baskets_values)
baskets_plan_is_feasible = feasible_from_test baskets_model baskets_values refl

-- 16,620 * (450 + 50)
baskets_plan_costs : cost_of baskets_model (plan_of (quantities baskets_model) baskets_values) ≡ pos 8310000
baskets_plan_costs = refl

-- an offer with a fee of 1,000,000 mills and a least lot of 18,000 kg
abbrev lot_model : Tables
lot_model = record line_model {
  settings = record line_settings { format = 3 };
  offers = line_offer 1 (pos 1000000) (pos 18000) ∷ [];
}

lot_quantities : quantities lot_model ≡ Ration 0 0 1 ∷ Short 0 1 ∷ Buy 0 1 ∷ Ship 0 0 1 ∷ Feed 1 0 1 ∷ Order 0 1 ∷ []
lot_quantities = refl

lot_last_rows : map (row_numbers lot_model) (drop 6 (rows lot_model))
    ≡ (row.LotLow 0 1, at_least, (2, pos 1) ∷ (5, neg_ℤ (pos 18000)) ∷ [], pos 0)
    ∷ (row.LotHigh 0 1, at_least, (2, neg_ℤ (pos 1)) ∷ (5, pos 20000) ∷ [], pos 0)
    ∷ []
lot_last_rows = refl

-- a ration of 600 g takes the whole lot
abbrev lot_values : List ℤ
lot_values = pos 60 ∷ pos 0 ∷ pos 18000 ∷ pos 18000 ∷ pos 18000 ∷ pos 1 ∷ []

lot_plan_is_feasible : Feasible lot_model (plan_of (quantities lot_model) lot_values)
lot_plan_is_feasible = feasible_from_test lot_model lot_values refl

-- 18,000 * (450 + 50) and the fee of 1,000,000
lot_plan_costs : cost_of lot_model (plan_of (quantities lot_model) lot_values) ≡ pos 10000000
lot_plan_costs = refl

-- the same fee without a least lot: 590 g a day are enough
abbrev fee_model : Tables
fee_model = record line_model {
  settings = record line_settings { format = 3 };
  offers = line_offer 1 (pos 1000000) (pos 0) ∷ [];
}

abbrev fee_values : List ℤ
fee_values = pos 59 ∷ pos 0 ∷ pos 17700 ∷ pos 17700 ∷ pos 17700 ∷ pos 1 ∷ []

fee_plan_is_feasible : Feasible fee_model (plan_of (quantities fee_model) fee_values)
fee_plan_is_feasible = feasible_from_test fee_model fee_values refl

-- 17,700 * (450 + 50) and the fee of 1,000,000
fee_plan_costs : cost_of fee_model (plan_of (quantities fee_model) fee_values) ≡ pos 9850000
fee_plan_costs = refl

fee_plan_file : plan_text fee_model (plan_of (quantities fee_model) fee_values)
    ≡ codes "quantity,name,commodity,month,amount" ++ 10 ∷ codes "ration,all,rice,1,590" ++ 10 ∷ codes "buy,o1,,1,17700" ++ 10 ∷ codes "ship,a1,rice,1,17700" ++ 10
    ∷ codes "feed,P,rice,1,17700" ++ 10 ∷ codes "order,o1,,1,1" ++ 10 ∷ []
unfolding digits is_blank fields_text escaped
fee_plan_file = refl

-- a second offer, of 400 mills a kilogram and a fee of 800,000 mills, beside one with neither fee nor least lot
abbrev choice_model : Tables
choice_model = record line_model {
  settings = record line_settings { format = 3 };
  offers = line_offer 1 (pos 0) (pos 0)
      ∷ record { offer = codes "o2"; place = 0; commodity = 0; price = pos 400; max_kg = pos 20000; first = 1; last = 1; fee = pos 800000; least = pos 0 }
      ∷ [];
}

choice_quantities : quantities choice_model ≡ Ration 0 0 1 ∷ Short 0 1 ∷ Buy 0 1 ∷ Buy 1 1 ∷ Ship 0 0 1 ∷ Feed 1 0 1 ∷ Order 1 1 ∷ []
choice_quantities = refl

-- all is bought from the second offer
abbrev choice_values : List ℤ
choice_values = pos 59 ∷ pos 0 ∷ pos 0 ∷ pos 17700 ∷ pos 17700 ∷ pos 17700 ∷ pos 1 ∷ []

choice_plan_is_feasible : Feasible choice_model (plan_of (quantities choice_model) choice_values)
choice_plan_is_feasible = feasible_from_test choice_model choice_values refl

-- 17,700 * (400 + 50) = 7,965,000, and the fee of 800,000
choice_plan_costs : cost_of choice_model (plan_of (quantities choice_model) choice_values) ≡ pos 8765000
choice_plan_costs = refl

-- without the order nothing may be bought of that offer
choice_without_order : broken_rows choice_model (plan_of (quantities choice_model) (pos 59 ∷ pos 0 ∷ pos 0 ∷ pos 17700 ∷ pos 17700 ∷ pos 17700 ∷ pos 0 ∷ [])) ≡ (row.LotHigh 1 1, 17700) ∷ []
choice_without_order = refl

-- two baskets with needs of their own, a fee with a least lot, storage and handling at the point, and shortfalls: 600 persons of
-- A may lack up to 100 of 2100 of energy; 400 of B need 1800 of energy and may lack up to 10 of 40 of protein, at a weight of 5
abbrev all_model : Tables
all_model = record line_model {
  settings = record line_settings { format = 3 };
  nutrients = record { nutrient = codes "energy" } ∷ record { nutrient = codes "protein" } ∷ [];
  contents = record { commodity = 0; nutrient = 0; per_100g = pos 360 } ∷ record { commodity = 0; nutrient = 1; per_100g = pos 7 } ∷ [];
  places = record { place = codes "S"; kind = place_kind.Supplier; storage = pos 0; throughput = None; handling = pos 0; storage_cost = pos 0 }
      ∷ record { place = codes "P"; kind = place_kind.Point; storage = pos 100; throughput = None; handling = pos 1; storage_cost = pos 4 }
      ∷ [];
  offers = line_offer 1 (pos 1000000) (pos 500) ∷ [];
  persons = record { place = 1; month = 1; persons = pos 600; basket = 0 } ∷ record { place = 1; month = 1; persons = pos 400; basket = 1 } ∷ [];
  baskets = record { basket = codes "A" } ∷ record { basket = codes "B" } ∷ [];
  needs = record { basket = 0; nutrient = 0; required = pos 2100; max_short = pos 100; weight = pos 1 }
      ∷ record { basket = 1; nutrient = 0; required = pos 1800; max_short = pos 0; weight = pos 2 }
      ∷ record { basket = 1; nutrient = 1; required = pos 40; max_short = pos 10; weight = pos 5 }
      ∷ [];
}

all_quantities : quantities all_model
    ≡ Ration 0 0 1 ∷ Ration 1 0 1 ∷ Short 0 1 ∷ Short 1 1 ∷ Short 2 1 ∷ Buy 0 1 ∷ Ship 0 0 1 ∷ Keep 1 0 1 ∷ Feed 1 0 1 ∷ Order 0 1 ∷ []
all_quantities = refl

-- 600 g are 60 steps; 1,000 persons get at most 1,000 * 30 * 600 g = 18,000 kg
all_ranges : map {B = ℤ × ℤ} (λ q. (low all_model q, high all_model q)) (quantities all_model)
    ≡ (pos 0, pos 60) ∷ (pos 0, pos 60) ∷ (pos 0, pos 100) ∷ (pos 0, pos 0) ∷ (pos 0, pos 10) ∷ (pos 0, pos 20000) ∷ (pos 0, pos 20000) ∷ (pos 0, pos 100) ∷ (pos 0, pos 18000)
    ∷ (pos 0, pos 1) ∷ []
all_ranges = refl

-- a step of 10 g gives 3600 of energy and 70 of protein, times 100; 600 * 30 * 10 and 400 * 30 * 10 grams are handed out for it
all_rows : map (row_numbers all_model) (rows all_model)
    ≡ (row.Nutrient 0 0 1, at_least, (0, pos 3600) ∷ (2, pos 100) ∷ [], pos 210000)
    ∷ (row.Nutrient 1 0 1, at_least, (1, pos 3600) ∷ (3, pos 100) ∷ [], pos 180000)
    ∷ (row.Nutrient 1 1 1, at_least, (1, pos 70) ∷ (4, pos 100) ∷ [], pos 4000)
    ∷ (row.HandoutLow 1 0 1, at_least, (0, neg_ℤ (pos 180000)) ∷ (1, neg_ℤ (pos 120000)) ∷ (8, pos 1000) ∷ [], pos 0)
    ∷ (row.HandoutHigh 1 0 1, at_least, (0, pos 180000) ∷ (1, pos 120000) ∷ (8, neg_ℤ (pos 1000)) ∷ [], neg_ℤ (pos 999))
    ∷ (row.Balance 0 0 1, equal, (5, pos 1) ∷ (6, neg_ℤ (pos 1)) ∷ [], pos 0)
    ∷ (row.Balance 1 0 1, equal, (6, pos 1) ∷ (7, neg_ℤ (pos 1)) ∷ (8, neg_ℤ (pos 1)) ∷ [], pos 0)
    ∷ (row.Arc 0 1, at_least, (6, neg_ℤ (pos 1)) ∷ [], neg_ℤ (pos 20000))
    ∷ (row.Storage 1 1, at_least, (7, neg_ℤ (pos 1)) ∷ [], neg_ℤ (pos 100))
    ∷ (row.LotLow 0 1, at_least, (5, pos 1) ∷ (9, neg_ℤ (pos 500)) ∷ [], pos 0)
    ∷ (row.LotHigh 0 1, at_least, (5, neg_ℤ (pos 1)) ∷ (9, pos 20000) ∷ [], pos 0)
    ∷ []
all_rows = refl

-- A gets 580 g: 3600 * 58 + 100 * 12 = 210,000. B gets 500 g: 3600 * 50 = 180,000 and 70 * 50 + 100 * 5 = 4,000. Handed out are
-- 180,000 * 58 + 120,000 * 50 g = 16,440 kg, and 60 kg are kept
abbrev all_values : List ℤ
all_values = pos 58 ∷ pos 50 ∷ pos 12 ∷ pos 0 ∷ pos 5 ∷ pos 16500 ∷ pos 16500 ∷ pos 60 ∷ pos 16440 ∷ pos 1 ∷ []

abbrev all_plan : Plan
all_plan = plan_of (quantities all_model) all_values

all_plan_is_feasible : Feasible all_model all_plan
all_plan_is_feasible = feasible_from_test all_model all_values refl

-- 16,500 * 450 = 7,425,000 are bought, 16,500 * (50 + 1) = 841,500 shipped, 60 * 4 = 240 kept, and the fee is 1,000,000
all_plan_costs : cost_of all_model all_plan ≡ pos 9266740
all_plan_costs = refl

-- 1 * 12 + 2 * 0 + 5 * 5
all_plan_lacks : lack_of all_model all_plan ≡ pos 37
all_plan_lacks = refl

all_plan_file : plan_text all_model all_plan
    ≡ codes "quantity,name,commodity,month,amount" ++ 10 ∷ codes "ration,A,rice,1,580" ++ 10 ∷ codes "ration,B,rice,1,500" ++ 10 ∷ codes "short,A,energy,1,12" ++ 10
    ∷ codes "short,B,protein,1,5" ++ 10 ∷ codes "buy,o1,,1,16500" ++ 10 ∷ codes "ship,a1,rice,1,16500" ++ 10 ∷ codes "keep,P,rice,1,60" ++ 10
    ∷ codes "feed,P,rice,1,16440" ++ 10 ∷ codes "order,o1,,1,1" ++ 10 ∷ []
unfolding digits is_blank fields_text escaped
all_plan_file = refl
