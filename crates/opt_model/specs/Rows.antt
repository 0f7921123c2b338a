-- The rows that a plan must meet, in the order of their numbers. Each left side is a sum over a plan's quantities; the
-- terms of quantities that do not exist count nothing, since a plan lists none of them.
use Rattle.std.specs.Prelude.{ℕ, ◌+◌, ◌-◌, Bool, false, ◌&&◌, ◌==◌, nat_lt, nat_le, if◌then◌else◌, List, [], ◌∷◌, ◌++◌, map, Option, Some, None, ℤ, pos, ◌+ℤ◌, ◌*ℤ◌, neg_ℤ, int_lt, int_le, not}
use Rattle.std.specs.Ordering.{int_eq}
use Rattle.opt_model.specs.Settings.{days_of}
use Rattle.opt_model.specs.Tables.{Tables, heads_at, stock_at}
use Rattle.opt_model.specs.Quantities.{over, over_months, list_if, of_record, step_of, is_point, is_offered, has_order, all_heads, same_quantity}
use Rattle.opt_model.specs.declared.quantity.Quantity.{Quantity}
use Rattle.opt_model.specs.declared.quantity.Quantity.TheVariants.{Ration, Short, Buy, Ship, Keep, Feed, Order}
use Rattle.opt_model.specs.declared.quantity.RowName.{RowName}
use Rattle.opt_model.specs.declared.quantity.RowName.TheVariants as row

-- quantities with coefficients; their sum is a row's left side or an objective
abbrev pub Terms : Type 0
Terms = List (Quantity × ℤ)

-- how the left side of a row stands to the right one
pub data Relation : Type 0 where
  at_least : Relation
  equal : Relation

-- a row: its name, and that the sum of its terms is at least, or equal to, the right side
pub record Row : Type 0 where
  pub name : RowName
  pub relation : Relation
  pub left : Terms
  pub right : ℤ

-- the sum is at least the right side
abbrev pub at_least_row : RowName → Terms → ℤ → List Row
at_least_row name left right = record { name = name; relation = at_least; left = left; right = right } ∷ []

-- the sum equals the right side
abbrev pub equal_row : RowName → Terms → ℤ → List Row
equal_row name left right = record { name = name; relation = equal; left = left; right = right } ∷ []

-- all coefficients with the other sign
abbrev pub negation : Terms → Terms
negation terms = map (λ term. (term.0, neg_ℤ term.1)) terms

-- the sum is at most the limit, written with both sides negated
abbrev pub at_most_row : RowName → Terms → ℤ → List Row
at_most_row name left limit = at_least_row name (negation left) (neg_ℤ limit)

-- what a basket gives of a nutrient, per person and day and times 100
abbrev pub nutrient_terms : Tables → ℕ → ℕ → ℕ → Terms
nutrient_terms t basket nutrient month =
    over t.contents λ _ r. list_if (r.nutrient == nutrient) ((Ration basket r.commodity month, r.per_100g *ℤ step_of t r.commodity) ∷ [])

-- each need is met but for its shortfall, in units times 100
abbrev pub nutrient_rows : Tables → List Row
nutrient_rows t = over t.needs λ d need. over_months t λ m.
    at_least_row (row.Nutrient need.basket need.nutrient m) (nutrient_terms t need.basket need.nutrient m ++ (Short d m, pos 100) ∷ []) (pos 100 *ℤ need.required)

-- whether a commodity is of this group
abbrev pub is_in_group : Option ℕ → ℕ → Bool
is_in_group None group = false
is_in_group (Some number) group = number == group

-- the grams of a group's commodities in a basket
abbrev pub group_terms : Tables → ℕ → ℕ → ℕ → Terms
group_terms t basket group month = over t.commodities λ c r. list_if (is_in_group r.group group) ((Ration basket c month, r.step_g) ∷ [])

-- the grams of each group lie from its least to its greatest
abbrev pub group_rows : Tables → List Row
group_rows t = over t.baskets λ b _. over t.groups λ g group. over_months t λ m.
    at_least_row (row.GroupLow b g m) (group_terms t b g m) group.min_g ++ at_most_row (row.GroupHigh b g m) (group_terms t b g m) group.max_g

-- the grams that the persons at a point get of a commodity in a month
abbrev pub handed_terms : Tables → ℕ → ℕ → ℕ → Terms
handed_terms t place commodity month =
    over t.baskets λ b _. (Ration b commodity month, (heads_at t place b month *ℤ pos (days_of t.settings month)) *ℤ step_of t commodity) ∷ []

-- the kilograms handed out are the grams of all persons, divided by 1000 and rounded up
abbrev pub handout_rows : Tables → List Row
handout_rows t = over t.places λ p place. over t.commodities λ c _. over_months t λ m.
    list_if (is_point place.kind && int_le (pos 1) (all_heads t p m))
    (at_least_row (row.HandoutLow p c m) ((Feed p c m, pos 1000) ∷ negation (handed_terms t p c m)) (pos 0)
    ++ at_least_row (row.HandoutHigh p c m) ((Feed p c m, neg_ℤ (pos 1000)) ∷ handed_terms t p c m) (neg_ℤ (pos 999)))

-- what is bought of a commodity at a place
abbrev pub bought_terms : Tables → ℕ → ℕ → ℕ → Terms
bought_terms t place commodity month = over t.offers λ o offer. list_if ((offer.place == place) && (offer.commodity == commodity)) ((Buy o month, pos 1) ∷ [])

-- what arrives of a commodity at a place in a month: what left as many months before as the arc's lead time
abbrev pub arrived_terms : Tables → ℕ → ℕ → ℕ → Terms
arrived_terms t place commodity month = over t.arcs λ a arc. list_if ((arc.to_place == place) && nat_lt arc.lead month) ((Ship a commodity (month - arc.lead), pos 1) ∷ [])

-- what leaves of a commodity from a place
abbrev pub sent_terms : Tables → ℕ → ℕ → ℕ → Terms
sent_terms t place commodity month = over t.arcs λ a arc. list_if (arc.from_place == place) ((Ship a commodity month, pos 1) ∷ [])

-- what was kept in the month before, and nothing in the first month
abbrev pub kept_terms : ℕ → ℕ → ℕ → Terms
kept_terms place commodity month = list_if (nat_lt 1 month) ((Keep place commodity (month - 1), pos 1) ∷ [])

-- what comes to a place and its stock is what leaves it, is kept and is handed out
abbrev pub balance_rows : Tables → List Row
balance_rows t = over t.places λ p _. over t.commodities λ c _. over_months t λ m.
    equal_row (row.Balance p c m)
    (bought_terms t p c m
    ++ (arrived_terms t p c m
    ++ (kept_terms p c m ++ (negation (sent_terms t p c m) ++ (Keep p c m, neg_ℤ (pos 1)) ∷ (Feed p c m, neg_ℤ (pos 1)) ∷ []))))
    (neg_ℤ (stock_at t p c m))

-- an arc carries at most its capacity, in each month with a departure
abbrev pub arc_rows : Tables → List Row
arc_rows t = over t.arcs λ a arc. over_months t λ m.
    list_if (nat_le (m + arc.lead) t.settings.months) (at_most_row (row.Arc a m) (over t.commodities λ c _. (Ship a c m, pos 1) ∷ []) arc.capacity)

-- a place with storage keeps at most that
abbrev pub storage_rows : Tables → List Row
storage_rows t = over t.places λ p place. over_months t λ m.
    list_if (int_lt (pos 0) place.storage) (at_most_row (row.Storage p m) (over t.commodities λ c _. (Keep p c m, pos 1) ∷ []) place.storage)

-- where a place has a throughput, what arrives in a month is at most that
abbrev pub throughput_row : Tables → ℕ → Option ℤ → ℕ → List Row
throughput_row t p None m = []
throughput_row t p (Some limit) m = at_most_row (row.Throughput p m) (over t.commodities λ c _. arrived_terms t p c m) limit

-- the throughput of every place
abbrev pub throughput_rows : Tables → List Row
throughput_rows t = over t.places λ p place. over_months t λ m. throughput_row t p place.throughput m

-- the cost in mills: what is bought, what is shipped with the handling where it ends, what is kept, and the fees of orders
abbrev pub cost_terms : Tables → Terms
cost_terms t = (over t.offers λ o offer. over_months t λ m. (Buy o m, offer.price) ∷ [])
    ++ ((over t.arcs λ a arc. over t.commodities λ c _. over_months t λ m. (Ship a c m, arc.cost +ℤ (of_record t.places arc.to_place λ r. r.handling)) ∷ [])
    ++ ((over t.places λ p place. over t.commodities λ c _. over_months t λ m. (Keep p c m, place.storage_cost) ∷ [])
    ++ (over t.offers λ o offer. over_months t λ m. (Order o m, offer.fee) ∷ [])))

-- where a budget is set, the cost is at most that
abbrev pub budget_rows : Tables → Option ℤ → List Row
budget_rows t None = []
budget_rows t (Some limit) = at_most_row row.Budget (cost_terms t) limit

-- where an offer is used, at least the least lot is bought and at most what is offered; else nothing
abbrev pub lot_rows : Tables → List Row
lot_rows t = over t.offers λ o offer. over_months t λ m. list_if (is_offered offer m && has_order offer)
    (at_least_row (row.LotLow o m) ((Buy o m, pos 1) ∷ (Order o m, neg_ℤ offer.least) ∷ []) (pos 0)
    ++ at_least_row (row.LotHigh o m) ((Buy o m, neg_ℤ (pos 1)) ∷ (Order o m, offer.max_kg) ∷ []) (pos 0))

-- all rows, in the order of their numbers
abbrev pub rows : Tables → List Row
rows t = nutrient_rows t
    ++ (group_rows t
    ++ (handout_rows t
    ++ (balance_rows t ++ (arc_rows t ++ (storage_rows t ++ (throughput_rows t ++ (budget_rows t t.settings.budget ++ lot_rows t)))))))

-- the weighted shortfall
abbrev pub lack_terms : Tables → Terms
lack_terms t = over t.needs λ d need. over_months t λ m. (Short d m, need.weight) ∷ []

-- the coefficient of a quantity: the sum of what the terms have at it
abbrev pub coefficient : Terms → Quantity → ℤ
coefficient [] q = pos 0
coefficient (term ∷ terms) q = (if same_quantity term.0 q then term.1 else pos 0) +ℤ coefficient terms q

-- the coefficients other than 0 of existing quantities, by number
abbrev pub coefficients_by_number : List Quantity → Terms → List (ℕ × ℤ)
coefficients_by_number qs terms = over qs λ number q. list_if (not (int_eq (coefficient terms q) (pos 0))) ((number, coefficient terms q) ∷ [])
