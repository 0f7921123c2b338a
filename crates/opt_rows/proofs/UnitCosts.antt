-- The coefficient of an existing quantity in a goal is what a unit of it adds.
use Rattle.std.proofs.Common.{◌≡◌, ◌≢◌, ℕ, ◌+◌, ◌≤◌, ◌<◌, Bool, true, false, ◌&&◌, List, [], ◌∷◌, ◌++◌, length, get_or, Option, Some, None, ℤ, pos, ◌+ℤ◌, refl, ap, sym, ◌∙◌, arith}
use Rattle.std.specs.Prelude.{slice_get, nat_le, int_lt}
use Rattle.std.specs.Option.{option_map_or}
use Rattle.std.specs.List.{range_with_len}
use Rattle.std.proofs.lemmas.Int.{ints}
use Rattle.std.proofs.lemmas.Bool.{and_parts, leb-true, ltb-true, false≢true}
use Rattle.std.proofs.lemmas.Option.{slice_get_within, get_or_from_slice_get, slice_get-get_or}
use Rattle.opt_model.specs.Tables.{Tables}
use Rattle.opt_model.specs.Quantities.{over, over_months, of_record, is_offered, has_order}
use Rattle.opt_model.specs.Rows.{Terms, coefficient, cost_terms, lack_terms}
use Rattle.opt_model.specs.Plans.{goal_terms}
use Rattle.opt_model.specs.declared.records.Goal.{Goal}
use Rattle.opt_model.specs.declared.records.Goal.TheVariants.{Cost, Shortfall}
use Rattle.opt_model.specs.declared.records.Arc.{Arc}
use Rattle.opt_model.specs.declared.records.Commodity.{Commodity}
use Rattle.opt_model.specs.declared.quantity.Quantity.{Quantity}
use Rattle.opt_model.specs.declared.quantity.Quantity.TheVariants.{Ration, Short, Buy, Ship, Keep, Feed, Order}
use Rattle.opt_network.specs.Numbering.{has_record, has_record_where, has_month, has_quantity}
use Rattle.opt_rows.specs.Costs.{mills_of, weight_of, unit_cost}
use Rattle.opt_rows.proofs.Alone.{coefficient-append, one_on, one_off, records_none, record_alone, month_alone, months_none}

-- ---- a record that is there
pub record There {A : Type 0} (xs : List A) (i : ℕ) (x : A) : Type 0 where
  pub within : i < length xs
  pub is : x ≡ get_or xs i x

from_some : {A : Type 0} (xs : List A) (i : ℕ) (x : A) → slice_get xs i ≡ Some x → There xs i x
from_some xs i x e = record { within = slice_get_within xs i x e; is = sym (get_or_from_slice_get xs i x x e) }

record_where : {A : Type 0} (test : A → Bool) (xs : List A) (i : ℕ) (o : Option A) → slice_get xs i ≡ o → option_map_or test o false ≡ true → (x : A) × There xs i x
record_where test xs i None e h = absurd (false≢true h)
record_where test xs i (Some x) e h = (x, from_some xs i x e)

-- a record that passes a test is there
pub there_where : {A : Type 0} (test : A → Bool) (xs : List A) (i : ℕ) → has_record_where test xs i ≡ true → (x : A) × There xs i x
there_where test xs i h = record_where test xs i (slice_get xs i) refl h

-- a number below the count is that of a record
pub there_at : {A : Type 0} (xs : List A) (i : ℕ) → has_record xs i ≡ true → (x : A) × There xs i x
there_at [] i h = let no : i < 0 = ltb-true i 0 h in absurd (omega arith)
there_at (y ∷ ys) i h =
    let within : i < length (y ∷ ys) = ltb-true i (length (y ∷ ys)) h in
    (get_or (y ∷ ys) i y, from_some (y ∷ ys) i (get_or (y ∷ ys) i y) (slice_get-get_or (y ∷ ys) i y within))

-- what a table says of it
pub of_there : {A : Type 0} (xs : List A) (i : ℕ) (x : A) (f : A → ℤ) → There xs i x → of_record xs i f ≡ f x
of_there xs i x f there =
    ap (λ (o : Option _). option_map_or f o (pos 0)) (slice_get-get_or xs i x there.within) ∙ ap f (sym there.is)

pub month_within : (t : Tables) (m : ℕ) → has_month t m ≡ true → (1 ≤ m) × (m ≤ t.settings.months)
month_within t m h =
    let parts : (nat_le 1 m ≡ true) × (nat_le m t.settings.months ≡ true) = and_parts (nat_le 1 m) (nat_le m t.settings.months) h in
    (leb-true 1 m parts.0, leb-true m t.settings.months parts.1)

-- ---- a term for each record and month, or for each record, commodity and month
module _ (t : Tables) {A : Type 0} (xs : List A) (z : A → ℤ) where
  abbrev months : List ℕ
  months = range_with_len 1 t.settings.months

  module _ (Q : ℕ → ℕ → Quantity) where
    abbrev one_of_two : ℕ → A → ℕ → Terms
    one_of_two i x m = (Q i m, z x) ∷ []

    -- the terms
    abbrev pub two : Terms
    two = over xs λ i x. over_months t λ m. one_of_two i x m

    pub two_none : (q : Quantity) → ((i m : ℕ) → Q i m ≢ q) → coefficient two q ≡ pos 0
    two_none q apart =
        records_none (λ i x. over_months t λ m. one_of_two i x m) q xs (λ i x. months_none (one_of_two i x) q months (λ m. one_off (Q i m) q (z x) (apart i m)))

    pub two_alone : ((i m j k : ℕ) → Q i m ≡ Q j k → (i ≡ j) × (m ≡ k)) → (i m : ℕ) (x : A) → There xs i x → (1 ≤ m) × (m ≤ t.settings.months) → coefficient two (Q i m) ≡ z x
    two_alone same i m x there month =
        record_alone (λ i x. over_months t λ m. one_of_two i x m) (Q i m) xs i x there.within there.is
        (λ j y apart. months_none (one_of_two j y) (Q i m) months (λ k. one_off (Q j k) (Q i m) (z y) (λ e. apart (same j k i m e).0)))
        ∙ (month_alone (one_of_two i x) (Q i m) t.settings.months m month.0 month.1 (λ k apart. one_off (Q i k) (Q i m) (z x) (λ e. apart (same i k i m e).1))
        ∙ one_on (Q i m) (z x))

  module _ (Q : ℕ → ℕ → ℕ → Quantity) where
    abbrev one_of_three : ℕ → A → ℕ → ℕ → Terms
    one_of_three i x c m = (Q i c m, z x) ∷ []

    -- the terms
    abbrev pub three : Terms
    three = over xs λ i x. over t.commodities λ c _. over_months t λ m. one_of_three i x c m

    pub three_none : (q : Quantity) → ((i c m : ℕ) → Q i c m ≢ q) → coefficient three q ≡ pos 0
    three_none q apart =
        records_none (λ i x. over t.commodities λ c _. over_months t λ m. one_of_three i x c m) q xs
        (λ i x. records_none (λ c _. over_months t λ m. one_of_three i x c m) q t.commodities
        (λ c _. months_none (one_of_three i x c) q months (λ m. one_off (Q i c m) q (z x) (apart i c m))))

    pub three_alone : ((i c m j d k : ℕ) → Q i c m ≡ Q j d k → (i ≡ j) × (c ≡ d) × (m ≡ k)) → (i c m : ℕ) (x : A) (y : Commodity)
        → There xs i x → There t.commodities c y → (1 ≤ m) × (m ≤ t.settings.months) → coefficient three (Q i c m) ≡ z x
    three_alone same i c m x y there place month =
        record_alone (λ i x. over t.commodities λ c _. over_months t λ m. one_of_three i x c m) (Q i c m) xs i x there.within there.is
        (λ j w apart. records_none (λ d _. over_months t λ k. one_of_three j w d k) (Q i c m) t.commodities
        (λ d _. months_none (one_of_three j w d) (Q i c m) months (λ k. one_off (Q j d k) (Q i c m) (z w) (λ e. apart (same j d k i c m e).0))))
        ∙ (record_alone (λ c _. over_months t λ m. one_of_three i x c m) (Q i c m) t.commodities c y place.within place.is
        (λ d _ apart. months_none (one_of_three i x d) (Q i c m) months (λ k. one_off (Q i d k) (Q i c m) (z x) (λ e. apart (same i d k i c m e).1)))
        ∙ (month_alone (one_of_three i x c) (Q i c m) t.settings.months m month.0 month.1 (λ k apart. one_off (Q i c k) (Q i c m) (z x) (λ e. apart (same i c k i c m e).2))
        ∙ one_on (Q i c m) (z x)))

-- ---- numbers from quantities
buy_same : (o m p k : ℕ) → Buy o m ≡ Buy p k → (o ≡ p) × (m ≡ k)
buy_same o m p k e = (cc, cc)

order_same : (o m p k : ℕ) → Order o m ≡ Order p k → (o ≡ p) × (m ≡ k)
order_same o m p k e = (cc, cc)

short_same : (d m e k : ℕ) → Short d m ≡ Short e k → (d ≡ e) × (m ≡ k)
short_same d m e k f = (cc, cc)

ship_same : (a c m b d k : ℕ) → Ship a c m ≡ Ship b d k → (a ≡ b) × (c ≡ d) × (m ≡ k)
ship_same a c m b d k e = (cc, cc, cc)

keep_same : (p c m q d k : ℕ) → Keep p c m ≡ Keep q d k → (p ≡ q) × (c ≡ d) × (m ≡ k)
keep_same p c m q d k e = (cc, cc, cc)

-- ---- the goals
module _ (t : Tables) where
  abbrev shipping : Arc → ℤ
  shipping arc = arc.cost +ℤ (of_record t.places arc.to_place λ r. r.handling)

  abbrev bought : Terms
  bought = two t t.offers (λ r. r.price) Buy

  abbrev shipped : Terms
  shipped = three t t.arcs shipping Ship

  abbrev kept : Terms
  kept = three t t.places (λ r. r.storage_cost) Keep

  abbrev ordered : Terms
  ordered = two t t.offers (λ r. r.fee) Order

  -- the sum of the four kinds
  cost_sum : (q : Quantity) → coefficient (cost_terms t) q ≡ coefficient bought q +ℤ (coefficient shipped q +ℤ (coefficient kept q +ℤ coefficient ordered q))
  cost_sum q =
      omega (arith, ints, coefficient-append bought (shipped ++ (kept ++ ordered)) q, coefficient-append shipped (kept ++ ordered) q, coefficient-append kept ordered q)

  no_bought : (q : Quantity) → ((o m : ℕ) → Buy o m ≢ q) → coefficient bought q ≡ pos 0
  no_bought q apart = two_none t t.offers (λ r. r.price) Buy q apart

  no_shipped : (q : Quantity) → ((a c m : ℕ) → Ship a c m ≢ q) → coefficient shipped q ≡ pos 0
  no_shipped q apart = three_none t t.arcs shipping Ship q apart

  no_kept : (q : Quantity) → ((p c m : ℕ) → Keep p c m ≢ q) → coefficient kept q ≡ pos 0
  no_kept q apart = three_none t t.places (λ r. r.storage_cost) Keep q apart

  no_ordered : (q : Quantity) → ((o m : ℕ) → Order o m ≢ q) → coefficient ordered q ≡ pos 0
  no_ordered q apart = two_none t t.offers (λ r. r.fee) Order q apart

  mills_are : (q : Quantity) → has_quantity t q ≡ true → coefficient (cost_terms t) q ≡ mills_of t q
  mills_are (Ration b c m) h =
      let q : Quantity = Ration b c m in
      omega (arith, ints, cost_sum q, no_bought q (λ o k e. cc), no_shipped q (λ a d k e. cc), no_kept q (λ p d k e. cc), no_ordered q (λ o k e. cc))
  mills_are (Short d m) h =
      let q : Quantity = Short d m in
      omega (arith, ints, cost_sum q, no_bought q (λ o k e. cc), no_shipped q (λ a d k e. cc), no_kept q (λ p d k e. cc), no_ordered q (λ o k e. cc))
  mills_are (Buy o m) h =
      let q : Quantity = Buy o m in
      let parts = and_parts (has_record_where (λ offer. is_offered offer m) t.offers o) (has_month t m) h in
      let offer = there_where (λ r. is_offered r m) t.offers o parts.0 in
      let here : coefficient bought q ≡ offer.0.price = two_alone t t.offers (λ r. r.price) Buy buy_same o m offer.0 offer.1 (month_within t m parts.1) in
      omega (arith, ints, cost_sum q, here, of_there t.offers o offer.0 (λ r. r.price) offer.1, no_shipped q (λ a d k e. cc), no_kept q (λ p d k e. cc), no_ordered q (λ o k e. cc))
  mills_are (Ship a c m) h =
      let q : Quantity = Ship a c m in
      let parts = and_parts (has_record_where (λ arc. nat_le (m + arc.lead) t.settings.months) t.arcs a) (has_record t.commodities c && has_month t m) h in
      let rest = and_parts (has_record t.commodities c) (has_month t m) parts.1 in
      let arc = there_where (λ r. nat_le (m + r.lead) t.settings.months) t.arcs a parts.0 in
      let commodity = there_at t.commodities c rest.0 in
      let here : coefficient shipped q ≡ shipping arc.0 = three_alone t t.arcs shipping Ship ship_same a c m arc.0 commodity.0 arc.1 commodity.1 (month_within t m rest.1) in
      omega (arith, ints, cost_sum q, here, of_there t.arcs a arc.0 shipping arc.1, no_bought q (λ o k e. cc), no_kept q (λ p d k e. cc), no_ordered q (λ o k e. cc))
  mills_are (Keep p c m) h =
      let q : Quantity = Keep p c m in
      let parts = and_parts (has_record_where (λ place. int_lt (pos 0) place.storage) t.places p) (has_record t.commodities c && has_month t m) h in
      let rest = and_parts (has_record t.commodities c) (has_month t m) parts.1 in
      let place = there_where (λ r. int_lt (pos 0) r.storage) t.places p parts.0 in
      let commodity = there_at t.commodities c rest.0 in
      let here : coefficient kept q ≡ place.0.storage_cost = three_alone t t.places (λ r. r.storage_cost) Keep keep_same p c m place.0 commodity.0 place.1 commodity.1 (month_within t m rest.1) in
      omega (arith, ints, cost_sum q, here, of_there t.places p place.0 (λ r. r.storage_cost) place.1, no_bought q (λ o k e. cc), no_shipped q (λ a d k e. cc), no_ordered q (λ o k e. cc))
  mills_are (Feed p c m) h =
      let q : Quantity = Feed p c m in
      omega (arith, ints, cost_sum q, no_bought q (λ o k e. cc), no_shipped q (λ a d k e. cc), no_kept q (λ p d k e. cc), no_ordered q (λ o k e. cc))
  mills_are (Order o m) h =
      let q : Quantity = Order o m in
      let parts = and_parts (has_record_where (λ offer. is_offered offer m && has_order offer) t.offers o) (has_month t m) h in
      let offer = there_where (λ r. is_offered r m && has_order r) t.offers o parts.0 in
      let here : coefficient ordered q ≡ offer.0.fee = two_alone t t.offers (λ r. r.fee) Order order_same o m offer.0 offer.1 (month_within t m parts.1) in
      omega (arith, ints, cost_sum q, here, of_there t.offers o offer.0 (λ r. r.fee) offer.1, no_bought q (λ o k e. cc), no_shipped q (λ a d k e. cc), no_kept q (λ p d k e. cc))

  no_lack : (q : Quantity) → ((d m : ℕ) → Short d m ≢ q) → coefficient (lack_terms t) q ≡ pos 0
  no_lack q apart = two_none t t.needs (λ r. r.weight) Short q apart

  weights_are : (q : Quantity) → has_quantity t q ≡ true → coefficient (lack_terms t) q ≡ weight_of t q
  weights_are (Ration b c m) h = no_lack (Ration b c m) (λ d k e. cc)
  weights_are (Short d m) h =
      let parts = and_parts (has_record t.needs d) (has_month t m) h in
      let need = there_at t.needs d parts.0 in
      two_alone t t.needs (λ r. r.weight) Short short_same d m need.0 need.1 (month_within t m parts.1) ∙ sym (of_there t.needs d need.0 (λ r. r.weight) need.1)
  weights_are (Buy o m) h = no_lack (Buy o m) (λ d k e. cc)
  weights_are (Ship a c m) h = no_lack (Ship a c m) (λ d k e. cc)
  weights_are (Keep p c m) h = no_lack (Keep p c m) (λ d k e. cc)
  weights_are (Feed p c m) h = no_lack (Feed p c m) (λ d k e. cc)
  weights_are (Order o m) h = no_lack (Order o m) (λ d k e. cc)

  -- the coefficient of an existing quantity is what a unit of it adds
  pub units_are : (goal : Goal) (q : Quantity) → has_quantity t q ≡ true → coefficient (goal_terms t goal) q ≡ unit_cost t goal q
  units_are Cost q h = mills_are q h
  units_are Shortfall q h = weights_are q h
