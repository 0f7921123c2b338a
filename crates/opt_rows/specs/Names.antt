-- The names of a model's rows, in the order of their numbers, and what a look for the name of a number answers.
use Rattle.std.specs.Prelude.{◌≡◌, ℕ, ◌+◌, ◌&&◌, nat_le, List, [], ◌∷◌, ◌++◌, length, slice_get, Option, Some, None, ℤ, pos, int_lt, int_le, Result, Ok, Err}
use Rattle.opt_model.specs.Tables.{Tables}
use Rattle.opt_model.specs.Quantities.{over, over_months, list_if, is_point, is_offered, has_order, all_heads}
use Rattle.opt_model.specs.declared.records.Need.{Need}
use Rattle.opt_model.specs.declared.records.Place.{Place}
use Rattle.opt_model.specs.declared.records.Offer.{Offer}
use Rattle.opt_model.specs.declared.records.Arc.{Arc}
use Rattle.opt_model.specs.declared.quantity.RowName.{RowName}
use Rattle.opt_model.specs.declared.quantity.RowName.TheVariants as row

-- the name of this number, or how many numbers are left past the names
abbrev pub Finds : List RowName → ℕ → Result ℕ RowName → Type 0
Finds names i (Ok rest) = i ≡ length names + rest
Finds names i (Err name) = slice_get names i ≡ Some name

-- a need has a row a month
abbrev pub nutrient_names_of : Tables → Need → List RowName
nutrient_names_of t need = over_months t λ m. row.Nutrient need.basket need.nutrient m ∷ []

abbrev pub nutrient_names : Tables → List RowName
nutrient_names t = over t.needs λ _ need. nutrient_names_of t need

-- a group has two rows a month in each basket
abbrev pub group_names_of : Tables → ℕ → ℕ → List RowName
group_names_of t b g = over_months t λ m. row.GroupLow b g m ∷ row.GroupHigh b g m ∷ []

abbrev pub group_names_in : Tables → ℕ → List RowName
group_names_in t b = over t.groups λ g _. group_names_of t b g

abbrev pub group_names : Tables → List RowName
group_names t = over t.baskets λ b _. group_names_in t b

-- what a point hands out of a commodity has two rows in each month in which it feeds somebody
abbrev pub handout_names_in : Tables → ℕ → Place → ℕ → ℕ → List RowName
handout_names_in t p place c m =
    list_if (is_point place.kind && int_le (pos 1) (all_heads t p m)) (row.HandoutLow p c m ∷ row.HandoutHigh p c m ∷ [])

abbrev pub handout_names_of : Tables → ℕ → Place → ℕ → List RowName
handout_names_of t p place c = over_months t λ m. handout_names_in t p place c m

abbrev pub handout_names_at : Tables → ℕ → Place → List RowName
handout_names_at t p place = over t.commodities λ c _. handout_names_of t p place c

abbrev pub handout_names : Tables → List RowName
handout_names t = over t.places λ p place. handout_names_at t p place

-- each commodity has a row a month at each place
abbrev pub balance_names_of : Tables → ℕ → ℕ → List RowName
balance_names_of t p c = over_months t λ m. row.Balance p c m ∷ []

abbrev pub balance_names_at : Tables → ℕ → List RowName
balance_names_at t p = over t.commodities λ c _. balance_names_of t p c

abbrev pub balance_names : Tables → List RowName
balance_names t = over t.places λ p _. balance_names_at t p

-- an arc has a row in each month with a departure
abbrev pub arc_names_of : Tables → ℕ → Arc → List RowName
arc_names_of t a arc = over_months t λ m. list_if (nat_le (m + arc.lead) t.settings.months) (row.Arc a m ∷ [])

abbrev pub arc_names : Tables → List RowName
arc_names t = over t.arcs λ a arc. arc_names_of t a arc

-- a place with storage has a row a month
abbrev pub storage_names_of : Tables → ℕ → Place → List RowName
storage_names_of t p place = over_months t λ m. list_if (int_lt (pos 0) place.storage) (row.Storage p m ∷ [])

abbrev pub storage_names : Tables → List RowName
storage_names t = over t.places λ p place. storage_names_of t p place

-- a place with a throughput has a row a month
abbrev pub throughput_names_in : ℕ → Option ℤ → ℕ → List RowName
throughput_names_in p None m = []
throughput_names_in p (Some limit) m = row.Throughput p m ∷ []

abbrev pub throughput_names_of : Tables → ℕ → Place → List RowName
throughput_names_of t p place = over_months t λ m. throughput_names_in p place.throughput m

abbrev pub throughput_names : Tables → List RowName
throughput_names t = over t.places λ p place. throughput_names_of t p place

-- a budget has one row
abbrev pub budget_names : Option ℤ → List RowName
budget_names None = []
budget_names (Some limit) = row.Budget ∷ []

-- an offer with a fee or a least lot has two rows in each month in which it stands
abbrev pub lot_names_in : ℕ → Offer → ℕ → List RowName
lot_names_in o offer m = list_if (is_offered offer m && has_order offer) (row.LotLow o m ∷ row.LotHigh o m ∷ [])

abbrev pub lot_names_of : Tables → ℕ → Offer → List RowName
lot_names_of t o offer = over_months t λ m. lot_names_in o offer m

abbrev pub lot_names : Tables → List RowName
lot_names t = over t.offers λ o offer. lot_names_of t o offer

-- the names of the rows of arcs, storage, throughput, the budget and lots
abbrev pub limit_names : Tables → List RowName
limit_names t = arc_names t ++ (storage_names t ++ (throughput_names t ++ (budget_names t.settings.budget ++ lot_names t)))

-- the names of all rows
abbrev pub row_names : Tables → List RowName
row_names t = nutrient_names t ++ (group_names t ++ (handout_names t ++ (balance_names t ++ limit_names t)))
