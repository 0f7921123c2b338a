-- Worked examples, each computed by the checker: a basket alone, printed lines, and the names of columns.
use Rattle.std.proofs.Common.{◌≡◌, [], ◌∷◌, ◌++◌, map, take, Some, None, ℤ, pos, codes, refl, lit<}
use Rattle.std.specs.Fmt.{digits}
use Rattle.csv.specs.Writing.{escaped, fields_text, is_blank}
use Rattle.opt_base.specs.declared.refusal.File.TheVariants as file
use Rattle.opt_base.specs.declared.refusal.Kind.TheVariants as kind
use Rattle.opt_base.specs.declared.verdict.Verdict.TheVariants as verdict
use Rattle.opt_model.specs.Columns.{columns_of, column_names, names_of}
use Rattle.opt_model.specs.Tables.{Tables}
use Rattle.opt_model.specs.Quantities.{quantities, point_count}
use Rattle.opt_model.specs.Rows.{equal}
use Rattle.opt_model.specs.Plans.{Plan, Feasible, plan_of, objective_of}
use Rattle.opt_model.specs.Texts.{outcome_line, refusal_line, plan_text}
use Rattle.opt_model.specs.declared.records.Goal.TheVariants.{Shortfall}
use Rattle.opt_model.specs.declared.quantity.RowName.TheVariants as row
use Rattle.opt_model.proofs.Feasibility.{feasible_from_test, not_feasible_from_row}

-- a basket alone: rice up to 500 g a day, of which 100 g give 360 of the 2100 that are needed
abbrev basket_model : Tables
basket_model = record {
  settings = record { format = 1; months = 1; days = 30 ∷ []; goal = Shortfall; gap = pos 300; nodes = 1; budget = None };
  commodities = record { commodity = codes "rice"; group = None; min_g = pos 0; max_g = pos 500; step_g = pos 10 } ∷ [];
  groups = [];
  nutrients = record { nutrient = codes "energy" } ∷ [];
  contents = record { commodity = 0; nutrient = 0; per_100g = pos 360 } ∷ [];
  places = [];
  offers = [];
  arcs = [];
  persons = [];
  stock = [];
  baskets = record { basket = codes "all" } ∷ [];
  needs = record { basket = 0; nutrient = 0; required = pos 2100; max_short = pos 2100; weight = pos 1 } ∷ [];
}

abbrev basket_plan : ℤ → Plan
basket_plan shortfall = plan_of (quantities basket_model) (pos 50 ∷ shortfall ∷ [])

basket_points : point_count basket_model ≡ pos 107151
basket_points = refl

basket_with_shortfall_is_feasible : Feasible basket_model (basket_plan (pos 300))
basket_with_shortfall_is_feasible = feasible_from_test basket_model (pos 50 ∷ pos 300 ∷ []) refl

basket_lacks : objective_of basket_model (basket_plan (pos 300)) ≡ pos 300
basket_lacks = refl

basket_with_less_is_not : Feasible basket_model (basket_plan (pos 299)) → ⊥
basket_with_less_is_not = not_feasible_from_row basket_model (basket_plan (pos 299)) 0 (record { name = row.Budget; relation = equal; left = []; right = pos 0 }) (lit< tt) refl

-- printed lines
prints_a_plan : outcome_line (verdict.Plan (pos 300) (pos 0)) 1 ≡ codes "plan 300 bound 0 gap 300 nodes 1" ++ 10 ∷ []
unfolding digits
prints_a_plan = refl

prints_no_plan : outcome_line verdict.NoPlan 7 ≡ codes "no plan nodes 7" ++ 10 ∷ []
unfolding digits
prints_no_plan = refl

prints_unfinished : outcome_line (verdict.Unfinished (pos 8750000) (Some (pos 8850000))) 1 ≡ codes "unfinished bound 8750000 best 8850000 nodes 1" ++ 10 ∷ []
unfolding digits
prints_unfinished = refl

prints_no_best : outcome_line (verdict.Unfinished (pos 0) None) 1 ≡ codes "unfinished bound 0 best none nodes 1" ++ 10 ∷ []
unfolding digits
prints_no_best = refl

prints_a_bad_number : refusal_line (record { file = file.Offers; number = 1; column = 4; kind = kind.BadNumber }) ≡ codes "refused offers.csv record 1 column price: BadNumber" ++ 10 ∷ []
unfolding digits
prints_a_bad_number = refl

prints_a_duplicate : refusal_line (record { file = file.Commodities; number = 2; column = 0; kind = kind.Duplicate }) ≡ codes "refused commodities.csv record 2: Duplicate" ++ 10 ∷ []
unfolding digits
prints_a_duplicate = refl

prints_too_many : refusal_line (record { file = file.Model; number = 0; column = 1; kind = kind.TooMany 20001 }) ≡ codes "refused model column quantities: TooMany 20001" ++ 10 ∷ []
unfolding digits
prints_too_many = refl

-- the plan file of the basket
basket_plan_file : plan_text basket_model (basket_plan (pos 300))
    ≡ codes "quantity,name,commodity,month,amount" ++ 10 ∷ codes "ration,rice,,1,500" ++ 10 ∷ codes "short,energy,,1,300" ++ 10 ∷ []
unfolding digits is_blank fields_text escaped
basket_plan_file = refl

-- the names of a table's columns, and that in each format they are the first of those of the format that has the most
names_of_offers : column_names file.Offers
    ≡ codes "offer" ∷ codes "place" ∷ codes "commodity" ∷ codes "price" ∷ codes "max_kg" ∷ codes "first" ∷ codes "last" ∷ codes "fee" ∷ codes "least" ∷ []
names_of_offers = refl

offers_of_formats : map (λ format. names_of (columns_of file.Offers format)) (1 ∷ 2 ∷ 3 ∷ [])
    ≡ take 7 (column_names file.Offers) ∷ take 7 (column_names file.Offers) ∷ column_names file.Offers ∷ []
offers_of_formats = refl

persons_of_formats : map (λ format. names_of (columns_of file.Persons format)) (1 ∷ 2 ∷ 3 ∷ [])
    ≡ take 3 (column_names file.Persons) ∷ column_names file.Persons ∷ column_names file.Persons ∷ []
persons_of_formats = refl

nutrients_of_formats : map (λ format. names_of (columns_of file.Nutrients format)) (1 ∷ 2 ∷ 3 ∷ [])
    ≡ column_names file.Nutrients ∷ take 1 (column_names file.Nutrients) ∷ take 1 (column_names file.Nutrients) ∷ []
nutrients_of_formats = refl

prints_a_fee : refusal_line (record { file = file.Offers; number = 3; column = 8; kind = kind.OutOfRange }) ≡ codes "refused offers.csv record 3 column fee: OutOfRange" ++ 10 ∷ []
unfolding digits
prints_a_fee = refl

prints_a_key : refusal_line (record { file = file.Settings; number = 0; column = 4; kind = kind.SettingMissing }) ≡ codes "refused settings.toml column goal: SettingMissing" ++ 10 ∷ []
unfolding digits
prints_a_key = refl
