-- What is printed of a row: its kind, the records that it is for, and its month.
use Rattle.std.specs.Prelude.{ℕ, cond, List, ◌++◌, codes}
use Rattle.std.specs.Fmt.{decimal}
use Rattle.opt_model.specs.Settings.{has_baskets}
use Rattle.opt_model.specs.Tables.{Tables}
use Rattle.opt_model.specs.Texts.{record_name}
use Rattle.opt_model.specs.declared.quantity.RowName.{RowName}
use Rattle.opt_model.specs.declared.quantity.RowName.TheVariants as row

-- the names of the records by their numbers, or nothing where there is no such record
abbrev pub basket_name : Tables → ℕ → List ℕ
basket_name t number = record_name t.baskets number (λ r. r.basket)

abbrev pub nutrient_name : Tables → ℕ → List ℕ
nutrient_name t number = record_name t.nutrients number (λ r. r.nutrient)

abbrev pub group_name : Tables → ℕ → List ℕ
group_name t number = record_name t.groups number (λ r. r.group)

abbrev pub place_name : Tables → ℕ → List ℕ
place_name t number = record_name t.places number (λ r. r.place)

abbrev pub commodity_name : Tables → ℕ → List ℕ
commodity_name t number = record_name t.commodities number (λ r. r.commodity)

abbrev pub arc_name : Tables → ℕ → List ℕ
arc_name t number = record_name t.arcs number (λ r. r.arc)

abbrev pub offer_name : Tables → ℕ → List ℕ
offer_name t number = record_name t.offers number (λ r. r.offer)

-- a row for one record in a month
abbrev pub one_named : List ℕ → List ℕ → ℕ → List ℕ
one_named kind name month = kind ++ (codes " " ++ (name ++ (codes " month " ++ decimal month)))

-- a row for two records in a month
abbrev pub two_named : List ℕ → List ℕ → List ℕ → ℕ → List ℕ
two_named kind first second month = kind ++ (codes " " ++ (first ++ (codes " " ++ (second ++ (codes " month " ++ decimal month)))))

-- a row for a record of a basket in a month; the basket is named from format 2 on
abbrev pub basket_named : Tables → List ℕ → ℕ → List ℕ → ℕ → List ℕ
basket_named t kind basket name month =
    cond (has_baskets t.settings.format) (two_named kind (basket_name t basket) name month) (one_named kind name month)

-- the printed name of a row
abbrev pub row_text : Tables → RowName → List ℕ
row_text t (row.Nutrient b n m) = basket_named t (codes "nutrient") b (nutrient_name t n) m
row_text t (row.GroupLow b g m) = basket_named t (codes "group-low") b (group_name t g) m
row_text t (row.GroupHigh b g m) = basket_named t (codes "group-high") b (group_name t g) m
row_text t (row.HandoutLow p c m) = two_named (codes "handout-low") (place_name t p) (commodity_name t c) m
row_text t (row.HandoutHigh p c m) = two_named (codes "handout-high") (place_name t p) (commodity_name t c) m
row_text t (row.Balance p c m) = two_named (codes "balance") (place_name t p) (commodity_name t c) m
row_text t (row.Arc a m) = one_named (codes "arc") (arc_name t a) m
row_text t (row.Storage p m) = one_named (codes "storage") (place_name t p) m
row_text t (row.Throughput p m) = one_named (codes "throughput") (place_name t p) m
row_text t row.Budget = codes "budget"
row_text t (row.LotLow o m) = one_named (codes "lot-low") (offer_name t o) m
row_text t (row.LotHigh o m) = one_named (codes "lot-high") (offer_name t o) m
