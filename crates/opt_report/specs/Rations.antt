-- The report of what the baskets hold and lack.
use Rattle.std.specs.Prelude.{ℕ, ◌==◌, cond, List, [], ◌∷◌, ◌++◌, codes, ℤ}
use Rattle.std.specs.Fmt.{decimal, signed_decimal}
use Rattle.csv.specs.Writing.{row_text, default_writer}
use Rattle.opt_model.specs.Columns.{names_of}
use Rattle.opt_model.specs.Plans.{Plan, grams_of}
use Rattle.opt_model.specs.Quantities.{over, over_months, list_if}
use Rattle.opt_model.specs.RowTexts.{basket_name, commodity_name, nutrient_name}
use Rattle.opt_model.specs.Settings.{has_baskets}
use Rattle.opt_model.specs.Tables.{Tables}
use Rattle.opt_model.specs.Texts.{record_name}
use Rattle.opt_model.specs.declared.records.Need.{Need}
use Rattle.opt_model.specs.declared.quantity.Quantity.TheVariants.{Short}

-- a record of a basket in a month; the basket is named from format 2 on
abbrev pub basket_record : Tables → ℕ → ℕ → List ℕ → List ℕ → ℤ → List ℕ
basket_record t month basket kind name amount = row_text default_writer
    (decimal month ∷ cond (has_baskets t.settings.format) (basket_name t basket ∷ []) [] ++ kind ∷ name ∷ signed_decimal amount ∷ [])

-- the record of a ration, in grams
abbrev pub ration_record : Tables → Plan → ℕ → ℕ → ℕ → List ℕ
ration_record t plan month basket commodity =
    basket_record t month basket (codes "ration") (commodity_name t commodity) (grams_of t plan basket commodity month)

-- the record of the shortfall of a need, where it is one of the basket's
abbrev pub short_record : Tables → Plan → ℕ → ℕ → ℕ → Need → List ℕ
short_record t plan month basket number need = list_if (need.basket == basket)
    (basket_record t month basket (codes "short") (nutrient_name t need.nutrient) (plan (Short number month)))

-- the same of the need of a number, or nothing where there is none
abbrev pub short_at : Tables → Plan → ℕ → ℕ → ℕ → List ℕ
short_at t plan month basket number = record_name t.needs number (short_record t plan month basket number)

-- the records of a basket in a month: the rations of all commodities, then the shortfalls of its needs, those that are 0 too
abbrev pub monthly_records : Tables → Plan → ℕ → ℕ → List ℕ
monthly_records t plan month basket =
    (over t.commodities λ c _. ration_record t plan month basket c) ++ (over t.needs λ d _. short_at t plan month basket d)

-- the names of the columns
abbrev pub basket_columns : Tables → List ℕ
basket_columns t = cond (has_baskets t.settings.format) (codes "month,basket,kind,name,amount") (codes "month,kind,name,amount")

-- the report: the names of the columns, then month by month the records of the baskets
abbrev pub basket_text : Tables → Plan → List ℕ
basket_text t plan = row_text default_writer (names_of (basket_columns t)) ++ (over_months t λ m. over t.baskets λ b _. monthly_records t plan m b)
