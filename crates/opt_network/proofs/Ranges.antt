-- The ranges of quantities, and that they are small.
use Rattle.std.proofs.Common.{◌≡◌, ℕ, ◌+◌, ◌*◌, ◌<◌, ◌≤◌, ◌^◌, zero, suc, Bool, true, false, ◌&&◌, List, [], ◌∷◌, ◌++◌, length, map, get_or, take, Option, Some, None, ℤ, pos, negsuc, ◌*ℤ◌, ◌≤ℤ◌, All, inl, inr, refl, sym, ap, ◌∙◌, subst, arith, count_by}
use Rattle.std.specs.Prelude.{◌-◌, slice_get, nat_le}
use Rattle.std.specs.Option.{option_map_or}
use Rattle.std.proofs.Math.Nat.{mul-le-mul, div-le_self, mul-div-le}
use Rattle.std.proofs.lemmas.Bool.{and_parts, both_ways, ltb-true, leb-true, cases_Bool}
use Rattle.std.proofs.lemmas.Int.{ints}
use Rattle.std.proofs.lemmas.List.{get_or-map, length-map, take_more, map-append}
use Rattle.std.proofs.lemmas.List.Elements.{All-head, All-tail}
use Rattle.std.proofs.lemmas.Option.{slice_get_cases, slice_get-get_or}
use Rattle.opt_base.specs.declared.limits.TheConstants.{QUANTITY_LIMIT}
use Rattle.opt_model.specs.Settings.{Settings, days_of}
use Rattle.opt_model.specs.Tables.{Tables, heads_at}
use Rattle.opt_model.specs.Quantities.{over, sum_over, of_record, all_heads, ceil_div, floor_div, least_steps, most_steps, most_grams, low, high, quantities, rations, same_quantity}
use Rattle.opt_model.specs.declared.records.Commodity.{Commodity}
use Rattle.opt_model.specs.declared.records.Need.{Need}
use Rattle.opt_model.specs.declared.records.Offer.{Offer}
use Rattle.opt_model.specs.declared.records.Arc.{Arc}
use Rattle.opt_model.specs.declared.records.Place.{Place}
use Rattle.opt_model.specs.declared.quantity.Quantity.{Quantity}
use Rattle.opt_model.specs.declared.quantity.Quantity.TheVariants.{Ration, Short, Buy, Ship, Keep, Feed, Order}
use Rattle.opt_model.proofs.Quantities.{same_quantity-self}
use Rattle.opt_model.proofs.Sums.{sum_over-not_negative, sum_over-at_most, length-over_one}
use Rattle.opt_read.specs.Setup.{IsSetup}
use Rattle.opt_tables.specs.Facts.{IsFrom, IsCommodity, IsNeed, IsOffer, IsArc, IsPlace, IsModel}
use Rattle.opt_network.specs.Numbering.{Numbering, numbering_of, IsSpan, IsNumbering, has_record, has_record_where, has_month, has_quantity}
use Rattle.opt_network.proofs.Once.{bit}
use Rattle.opt_network.proofs.OneToOne.{counted_once}
use Rattle.opt_network.proofs.Lookups.{counted-there}
use Rattle.opt_network.proofs.Lengths.{length_quantities}
use Rattle.opt_network.proofs.Heads.{heads_within}

-- ---- records by their numbers
-- a number of a record that is there
pub of_record_there : {A : Type 0} (xs : List A) (i : ℕ) (x : A) (f : A → ℤ) → i < length xs → x ≡ get_or xs i x → of_record xs i f ≡ f x
of_record_there xs i x f lt read = ap (λ found. option_map_or f found (pos 0)) (slice_get-get_or xs i x lt ∙ ap Some (sym read))

pub of_record_at : {A : Type 0} (xs : List A) (i : ℕ) (d : A) (f : A → ℤ) → i < length xs → of_record xs i f ≡ f (get_or xs i d)
of_record_at xs i d f lt = ap (λ found. option_map_or f found (pos 0)) (slice_get-get_or xs i d lt)

-- what holds of every record, and of none, holds of the record of a number
found-All : {A : Type 0} (P : A → Type 0) (R : Option A → Type 0) → R None → ((x : A) → P x → R (Some x)) → (xs : List A) (i : ℕ) → All P xs → R (slice_get xs i)
found-All P R none some [] i all = none
found-All P R none some (x ∷ xs) zero all = some x (All-head P x xs all)
found-All P R none some (x ∷ xs) (suc i) all = found-All P R none some xs i (All-tail P x xs all)

pub where_there : {A : Type 0} (test : A → Bool) (xs : List A) (i : ℕ) → has_record_where test xs i ≡ true → i < length xs
where_there test xs i h = elim ((slice_get_cases xs i).1) [
  | inl (x, lt, e, at) ↦ lt
  | inr (le, e) ↦ absurd (both_ways (has_record_where test xs i) (ap (λ o. option_map_or test o false) e) h)
]

pub record_there : {A : Type 0} (xs : List A) (i : ℕ) (b : Bool) → (has_record xs i && b) ≡ true → i < length xs
record_there xs i b h = ltb-true i (length xs) (and_parts (has_record xs i) b h).0

pub commodity_there : (t : Tables) (a b : Bool) (c : ℕ) → (a && (has_record t.commodities c && b)) ≡ true → c < length t.commodities
commodity_there t a b c h = record_there t.commodities c b (and_parts a (has_record t.commodities c && b) h).1

pub first_there : {A : Type 0} (test : A → Bool) (xs : List A) (i : ℕ) (b : Bool) → (has_record_where test xs i && b) ≡ true → i < length xs
first_there test xs i b h = where_there test xs i (and_parts (has_record_where test xs i) b h).0

pub month_there : (t : Tables) (a b : Bool) (m : ℕ) → (a && (b && has_month t m)) ≡ true → (1 ≤ m) × (m ≤ t.settings.months)
month_there t a b m h =
    let month = (and_parts b (has_month t m) (and_parts a (b && has_month t m) h).1).1 in
    let parts = and_parts (nat_le 1 m) (nat_le m t.settings.months) month in
    (leb-true 1 m parts.0, leb-true m t.settings.months parts.1)

-- one more number of a list that is made quantity by quantity
pub numbers_step : (f : Quantity → ℤ) (qs : List Quantity) (i : ℕ) (d : Quantity) (now new : List ℤ) (z : ℤ) → i < length qs → now ≡ map f (take i qs) → new ≡ now ++ z ∷ []
    → z ≡ f (get_or qs i d) → new ≡ map f (take (i + 1) qs)
numbers_step f qs i d now new z lt so_far more is =
    more ∙ (ap (λ zs. zs ++ z ∷ []) so_far ∙ (ap (λ y. map f (take i qs) ++ y ∷ []) is
    ∙ (sym (map-append f (take i qs) (get_or qs i d ∷ [])) ∙ ap (map f) (sym (take_more qs i d lt)))))

-- ---- products and quotients
pub product_within : (a b : ℤ) (m n : ℕ) → IsFrom (pos 0) (pos m) a → IsFrom (pos 0) (pos n) b → IsFrom (pos 0) (pos (m * n)) (a *ℤ b)
product_within (pos a) (pos b) m n h k =
    let more : a * b ≤ m * n = mul-le-mul {n₁ = a} {m₁ = b} {n₂ = m} {m₂ = n} (omega (arith, ints, h.below)) (omega (arith, ints, k.below)) in
    record { above = omega (arith, ints); below = omega (arith, ints, more) }
product_within (pos a) (negsuc b) m n h k = absurd (omega (arith, ints, k.above))
product_within (negsuc a) b m n h k = absurd (omega (arith, ints, h.above))

-- whole steps within a number of grams are not more than that
grams_within : (most step : ℤ) → IsFrom (pos 0) (pos 2000) most → IsFrom (pos 1) (pos 2000) step → IsFrom (pos 0) (pos 2000) (step *ℤ floor_div most step)
grams_within (pos m) (pos s) h k = record { above = omega (arith, ints); below = omega (arith, ints, mul-div-le m s, h.below) }
grams_within (pos m) (negsuc s) h k = absurd (omega (arith, ints, k.above))
grams_within (negsuc m) step h k = absurd (omega (arith, ints, h.above))

most_steps_small : (most step : ℤ) → IsFrom (pos 0) (pos 2000) most → IsFrom (pos 1) (pos 2000) step → floor_div most step ≤ℤ pos (2 ^ 40)
most_steps_small (pos m) (pos s) h k = omega (arith, ints, div-le_self m s, h.below)
most_steps_small (pos m) (negsuc s) h k = absurd (omega (arith, ints, k.above))
most_steps_small (negsuc m) step h k = absurd (omega (arith, ints, h.above))

least_steps_from_zero : (least step : ℤ) → IsFrom (pos 0) (pos 2000) least → IsFrom (pos 1) (pos 2000) step → pos 0 ≤ℤ ceil_div least step
least_steps_from_zero (pos zero) (pos s) h k = omega (arith, ints)
least_steps_from_zero (pos (suc m)) (pos s) h k = omega (arith, ints)
least_steps_from_zero (pos m) (negsuc s) h k = absurd (omega (arith, ints, k.above))
least_steps_from_zero (negsuc m) step h k = absurd (omega (arith, ints, h.above))

pub kilograms_small : (grams : ℤ) → IsFrom (pos 0) (pos (10 ^ 13)) grams → IsSpan (pos 0) (ceil_div grams (pos 1000))
kilograms_small (pos zero) h = record { from_zero = omega (arith, ints); rising = omega (arith, ints); small = omega (arith, ints) }
kilograms_small (pos (suc k)) h = record { from_zero = omega (arith, ints); rising = omega (arith, ints); small = omega (arith, ints, h.below) }
kilograms_small (negsuc k) h = absurd (omega (arith, ints, h.above))

-- ---- what is handed out
pub all_heads_within : (t : Tables) → IsModel t → (place month : ℕ) → IsFrom (pos 0) (pos (16 * 10 ^ 7)) (all_heads t place month)
all_heads_within t model place month =
    let f = λ (b : ℕ). heads_at t place b month in
    let bs : List ℕ = over t.baskets λ b _. b ∷ [] in
    let count : length bs ≡ length t.baskets = length-over_one (λ b _. b ∷ []) 0 t.baskets (λ n x. refl) in
    let most : sum_over bs f ≤ℤ pos (length bs * 10 ^ 7) = sum_over-at_most f (10 ^ 7) bs (λ k d lt. (heads_within t model place (get_or bs k d) month).below) in
    record {
      above = sum_over-not_negative f bs (λ k d lt. (heads_within t model place (get_or bs k d) month).above);
      below = omega (arith, ints, most, count, model.few_baskets);
    }

days_at : (days : List ℕ) (i : ℕ) → All (λ n. n ≤ 31) days → get_or days i 0 ≤ 31
days_at [] i all = omega arith
days_at (n ∷ ns) zero all = All-head (λ n. n ≤ 31) n ns all
days_at (n ∷ ns) (suc i) all = days_at ns i (All-tail (λ n. n ≤ 31) n ns all)

pub days_within : (s : Settings) → IsSetup s → (month : ℕ) → IsFrom (pos 0) (pos 31) (pos (days_of s month))
days_within s setup month =
    let few : days_of s month ≤ 31 = days_at s.days (month - 1) setup.day in
    record { above = omega (arith, ints); below = omega (arith, ints, few) }

pub person_days_within : (t : Tables) → IsModel t → (place month : ℕ) → IsFrom (pos 0) (pos (16 * 10 ^ 7 * 31)) (all_heads t place month *ℤ pos (days_of t.settings month))
person_days_within t model place month =
    product_within (all_heads t place month) (pos (days_of t.settings month)) (16 * 10 ^ 7) 31 (all_heads_within t model place month) (days_within t.settings model.settings month)

pub ration_within : (r : Commodity) → IsCommodity r → IsFrom (pos 0) (pos 2000) (r.step_g *ℤ most_steps r)
ration_within r is = grams_within r.max_g r.step_g is.max_g is.step_g

pub grams_of_within : (t : Tables) → IsModel t → (place month : ℕ) (r : Commodity) → IsCommodity r
    → IsFrom (pos 0) (pos (10 ^ 13)) ((all_heads t place month *ℤ pos (days_of t.settings month)) *ℤ (r.step_g *ℤ most_steps r))
grams_of_within t model place month r is =
    let within = product_within (all_heads t place month *ℤ pos (days_of t.settings month)) (r.step_g *ℤ most_steps r) (16 * 10 ^ 7 * 31) 2000 (person_days_within t model place month) (ration_within r is) in
    record { above = within.above; below = omega (arith, ints, within.below) }

-- ---- the ranges of all kinds
none_within : (most : ℕ) → IsFrom (pos 0) (pos most) (pos 0)
none_within most = record { above = omega (arith, ints); below = omega (arith, ints) }

number_within : {A : Type 0} (P : A → Type 0) (f : A → ℤ) (most : ℕ) → ((x : A) → P x → IsFrom (pos 0) (pos most) (f x)) → (xs : List A) (i : ℕ) → All P xs → IsFrom (pos 0) (pos most) (of_record xs i f)
number_within P f most each xs i all = found-All P (λ o. IsFrom (pos 0) (pos most) (option_map_or f o (pos 0))) (none_within most) each xs i all

up_to_span : (z : ℤ) → IsFrom (pos 0) (pos (10 ^ 9)) z → IsSpan (pos 0) z
up_to_span z h = record { from_zero = omega (arith, ints); rising = h.above; small = omega (arith, ints, h.below) }

pub steps_span : (r : Commodity) → IsCommodity r → IsSpan (least_steps r) (most_steps r)
steps_span r is = record {
  from_zero = least_steps_from_zero r.min_g r.step_g is.min_g is.step_g;
  rising = is.has_step;
  small = most_steps_small r.max_g r.step_g is.max_g is.step_g;
}

-- every range begins at 0 or above, is not empty, and is small
pub span_within : (t : Tables) → IsModel t → (q : Quantity) → IsSpan (low t q) (high t q)
span_within t model (Ration b c m) =
    found-All IsCommodity (λ o. IsSpan (option_map_or least_steps o (pos 0)) (option_map_or most_steps o (pos 0)))
    (record { from_zero = omega (arith, ints); rising = omega (arith, ints); small = omega (arith, ints) })
    steps_span t.commodities c model.commodities
span_within t model (Short d m) = up_to_span (high t (Short d m)) (number_within IsNeed (λ (r : Need). r.max_short) (10 ^ 9) (λ r is. is.max_short) t.needs d model.needs)
span_within t model (Buy o m) = up_to_span (high t (Buy o m)) (number_within (IsOffer t) (λ (r : Offer). r.max_kg) (10 ^ 9) (λ r is. is.max_kg) t.offers o model.offers)
span_within t model (Ship a c m) = up_to_span (high t (Ship a c m)) (number_within (IsArc t) (λ (r : Arc). r.capacity) (10 ^ 9) (λ r is. is.capacity) t.arcs a model.arcs)
span_within t model (Keep p c m) = up_to_span (high t (Keep p c m)) (number_within IsPlace (λ (r : Place). r.storage) (10 ^ 9) (λ r is. is.storage) t.places p model.places)
span_within t model (Feed p c m) =
    kilograms_small (most_grams t p c m)
    (number_within IsCommodity (λ (r : Commodity). (all_heads t p m *ℤ pos (days_of t.settings m)) *ℤ (r.step_g *ℤ most_steps r)) (10 ^ 13) (grams_of_within t model p m) t.commodities c model.commodities)
span_within t model (Order o m) = record { from_zero = omega (arith, ints); rising = omega (arith, ints); small = omega (arith, ints) }

-- ---- layouts
-- every quantity in the list exists
pub all_exist : (t : Tables) → All (λ q. has_quantity t q ≡ true) (quantities t)
all_exist t i d lt =
    let qs = quantities t in
    let q = get_or qs i d in
    let there : 1 ≤ count_by (same_quantity q) qs = counted-there (same_quantity q) qs i q (slice_get-get_or qs i d lt) (same_quantity-self q) in
    elim (cases_Bool (has_quantity t q)) [
      | inl e ↦ e
      | inr e ↦
          let none : bit (has_quantity t q) ≡ 0 = ap bit e in
          absurd (omega (arith, there, counted_once t q, none))
    ]

bit-few : (b : Bool) → bit b ≤ 1
bit-few true = omega arith
bit-few false = omega arith

pub once : (t : Tables) (q : Quantity) → count_by (same_quantity q) (quantities t) ≤ 1
once t q = omega (arith, counted_once t q, bit-few (has_quantity t q))

pub few_rations : (t : Tables) → length (rations t) ≤ length (quantities t)
few_rations t = omega (arith, length_quantities t)

pub numbering_holds : (t : Tables) → IsModel t → length (quantities t) ≤ QUANTITY_LIMIT → IsNumbering (numbering_of t)
numbering_holds t model few =
    let qs = quantities t in
    let d = Short 0 0 in
    record {
      few = few;
      once = once t;
      lows = length-map qs (low t);
      highs = length-map qs (high t);
      spans = λ i lt.
          subst (λ z. IsSpan z (get_or (map (high t) qs) i (pos 0))) (sym (get_or-map (low t) qs i d (pos 0) lt))
          (subst (IsSpan (low t (get_or qs i d))) (sym (get_or-map (high t) qs i d (pos 0) lt)) (span_within t model (get_or qs i d)));
      rations = few_rations t;
    }

-- numberings with the same parts are the same
pub same_numbering : (n m : Numbering) → n.quantities ≡ m.quantities → n.lows ≡ m.lows → n.highs ≡ m.highs → n.rations ≡ m.rations → n ≡ m
same_numbering n m e f g h =
    let quantities : List Quantity → Numbering = λ x. record { quantities = x; lows = n.lows; highs = n.highs; rations = n.rations } in
    let lows : List ℤ → Numbering = λ x. record { quantities = m.quantities; lows = x; highs = n.highs; rations = n.rations } in
    let highs : List ℤ → Numbering = λ x. record { quantities = m.quantities; lows = m.lows; highs = x; rations = n.rations } in
    let rations : ℕ → Numbering = λ x. record { quantities = m.quantities; lows = m.lows; highs = m.highs; rations = x } in
    ap quantities e ∙ (ap lows f ∙ (ap highs g ∙ ap rations h))
