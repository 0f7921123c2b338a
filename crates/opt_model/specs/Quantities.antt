-- The quantities that a model has, with their order and their ranges.
use Rattle.std.specs.Prelude.{ℕ, ◌+◌, Bool, true, false, cond, ◌&&◌, ◌||◌, ◌==◌, nat_le, List, [], ◌∷◌, ◌++◌, ℤ, pos, ◌+ℤ◌, ◌-ℤ◌, ◌*ℤ◌, neg_ℤ, int_lt, int_le, slice_get}
use Rattle.std.specs.List.{flat_map, enumerate_from, range_with_len}
use Rattle.std.specs.Option.{option_map_or}
use Rattle.std.specs.Int.{int_div_euclid}
use Rattle.opt_model.specs.Settings.{days_of}
use Rattle.opt_model.specs.Tables.{Tables, heads_at}
use Rattle.opt_model.specs.declared.records.Commodity.{Commodity}
use Rattle.opt_model.specs.declared.records.Offer.{Offer}
use Rattle.opt_model.specs.declared.records.PlaceKind.{PlaceKind}
use Rattle.opt_model.specs.declared.records.PlaceKind.TheVariants.{Supplier, Port, Hub, Point}
use Rattle.opt_model.specs.declared.quantity.Quantity.{Quantity}
use Rattle.opt_model.specs.declared.quantity.Quantity.TheVariants.{Ration, Short, Buy, Ship, Keep, Feed, Order}

-- what each record, with its number, adds to a list
abbrev pub over : {A B : Type 0} → List A → (ℕ → A → List B) → List B
over records f = flat_map (λ r. f r.0 r.1) (enumerate_from 0 records)

-- what each month adds to a list
abbrev pub over_months : {B : Type 0} → Tables → (ℕ → List B) → List B
over_months t f = flat_map f (range_with_len 1 t.settings.months)

-- a list where a test holds, else nothing
abbrev pub list_if : {A : Type 0} → Bool → List A → List A
list_if test xs = cond test xs []

-- the quotient rounded down, by a divisor above 0
abbrev pub floor_div : ℤ → ℤ → ℤ
floor_div x y = int_div_euclid x y

-- the quotient rounded up, by a divisor above 0
abbrev pub ceil_div : ℤ → ℤ → ℤ
ceil_div x y = neg_ℤ (int_div_euclid (neg_ℤ x) y)

-- the sum of a number for each record
abbrev pub sum_over : {A : Type 0} → List A → (A → ℤ) → ℤ
sum_over [] f = pos 0
sum_over (x ∷ xs) f = f x +ℤ sum_over xs f

-- food is handed out at a point alone
abbrev pub is_point : PlaceKind → Bool
is_point Point = true
is_point Supplier = false
is_point Port = false
is_point Hub = false

-- a month lies from the offer's first to its last
abbrev pub is_offered : Offer → ℕ → Bool
is_offered offer month = nat_le offer.first month && nat_le month offer.last

-- an offer has a fee or a least lot, so that whether it is used is decided
abbrev pub has_order : Offer → Bool
has_order offer = int_lt (pos 0) offer.fee || int_lt (pos 0) offer.least

-- all persons whom a point feeds in a month
abbrev pub all_heads : Tables → ℕ → ℕ → ℤ
all_heads t place month = sum_over (over t.baskets λ b _. b ∷ []) λ b. heads_at t place b month

-- the step of a commodity's ration, in grams
abbrev pub step_of : Tables → ℕ → ℤ
step_of t commodity = option_map_or (λ r. r.step_g) (slice_get t.commodities commodity) (pos 0)

-- the greatest ration of a commodity, in steps
abbrev pub most_steps : Commodity → ℤ
most_steps r = floor_div r.max_g r.step_g

-- the least ration of a commodity, in steps
abbrev pub least_steps : Commodity → ℤ
least_steps r = ceil_div r.min_g r.step_g

-- a ration for every basket, commodity and month
abbrev pub rations : Tables → List Quantity
rations t = over t.baskets λ b _. over t.commodities λ c _. over_months t λ m. Ration b c m ∷ []

-- a shortfall for every need and month
abbrev pub shorts : Tables → List Quantity
shorts t = over t.needs λ d _. over_months t λ m. Short d m ∷ []

-- a purchase for every offer, in the months of the plan from its first to its last
abbrev pub buys : Tables → List Quantity
buys t = over t.offers λ o offer. over_months t λ m. list_if (is_offered offer m) (Buy o m ∷ [])

-- a shipment for every arc and commodity, in the months of departure whose arrival lies within the plan
abbrev pub ships : Tables → List Quantity
ships t = over t.arcs λ a arc. over t.commodities λ c _. over_months t λ m. list_if (nat_le (m + arc.lead) t.settings.months) (Ship a c m ∷ [])

-- what is kept at every place with storage, of every commodity, at the end of every month
abbrev pub keeps : Tables → List Quantity
keeps t = over t.places λ p place. over t.commodities λ c _. over_months t λ m. list_if (int_lt (pos 0) place.storage) (Keep p c m ∷ [])

-- what is handed out at every point, of every commodity, in the months in which it feeds somebody
abbrev pub feeds : Tables → List Quantity
feeds t = over t.places λ p place. over t.commodities λ c _. over_months t λ m. list_if (is_point place.kind && int_le (pos 1) (all_heads t p m)) (Feed p c m ∷ [])

-- whether an offer with a fee or a least lot is used, where its purchase exists
abbrev pub orders : Tables → List Quantity
orders t = over t.offers λ o offer. over_months t λ m. list_if (is_offered offer m && has_order offer) (Order o m ∷ [])

-- the quantities that exist, in the order of their numbers
abbrev pub quantities : Tables → List Quantity
quantities t = rations t ++ (shorts t ++ (buys t ++ (ships t ++ (keeps t ++ (feeds t ++ orders t)))))

-- two quantities are the same
abbrev pub same_quantity : Quantity → Quantity → Bool
same_quantity (Ration b c m) (Ration b' c' m') = (b == b') && ((c == c') && (m == m'))
same_quantity (Short d m) (Short d' m') = (d == d') && (m == m')
same_quantity (Buy o m) (Buy o' m') = (o == o') && (m == m')
same_quantity (Ship a c m) (Ship a' c' m') = (a == a') && ((c == c') && (m == m'))
same_quantity (Keep p c m) (Keep p' c' m') = (p == p') && ((c == c') && (m == m'))
same_quantity (Feed p c m) (Feed p' c' m') = (p == p') && ((c == c') && (m == m'))
same_quantity (Order o m) (Order o' m') = (o == o') && (m == m')
same_quantity _ _ = false

-- a number of a table's record, or 0 where there is no such record
abbrev pub of_record : {A : Type 0} → List A → ℕ → (A → ℤ) → ℤ
of_record records number f = option_map_or f (slice_get records number) (pos 0)

-- what the persons at a point would get of a commodity at the greatest ration, in grams
abbrev pub most_grams : Tables → ℕ → ℕ → ℕ → ℤ
most_grams t place commodity month =
    of_record t.commodities commodity λ r. (all_heads t place month *ℤ pos (days_of t.settings month)) *ℤ (r.step_g *ℤ most_steps r)

-- the lowest value of a quantity: a ration's in steps, all others 0
abbrev pub low : Tables → Quantity → ℤ
low t (Ration b c m) = of_record t.commodities c least_steps
low t _ = pos 0

-- the greatest value of a quantity: a ration's in steps, a shortfall's in units, whether an offer is used 1, else kilograms
abbrev pub high : Tables → Quantity → ℤ
high t (Ration b c m) = of_record t.commodities c most_steps
high t (Short d m) = of_record t.needs d λ r. r.max_short
high t (Buy o m) = of_record t.offers o λ r. r.max_kg
high t (Ship a c m) = of_record t.arcs a λ r. r.capacity
high t (Keep p c m) = of_record t.places p λ r. r.storage
high t (Feed p c m) = ceil_div (most_grams t p c m) (pos 1000)
high t (Order o m) = pos 1

-- the product of the counts of values that the quantities can take
abbrev pub point_count : Tables → ℤ
point_count t = points_in (quantities t)
  where
    points_in : List Quantity → ℤ
    points_in [] = pos 1
    points_in (q ∷ qs) = ((high t q -ℤ low t q) +ℤ pos 1) *ℤ points_in qs
