-- What a unit adds to a goal is not negative, and small for its quantity.
use Rattle.std.proofs.Common.{◌≡◌, ℕ, ◌+◌, ◌*◌, ◌^◌, ◌≤◌, ◌<◌, max, Bool, true, false, ◌&&◌, List, [], ◌∷◌, ◌++◌, length, get_or, take, map, Option, Some, None, ℤ, pos, ◌+ℤ◌, ◌≤ℤ◌, unsigned_abs, All, refl, ap, sym, ◌∙◌, subst, arith, zero-mul}
use Rattle.std.specs.Prelude.{slice_get, nat_le, int_lt}
use Rattle.std.specs.Option.{option_map_or}
use Rattle.std.proofs.lemmas.Int.{ints}
use Rattle.std.proofs.lemmas.Bool.{and_parts, lt-ltb}
use Rattle.std.proofs.Math.Seq.{take-length}
use Rattle.std.proofs.lemmas.List.{length-map, get_or-map, map-append, take_more, same_lists}
use Rattle.std.proofs.lemmas.Option.{slice_get-get_or, slice_get_within, get_or_from_slice_get}
use Rattle.std.proofs.Math.Nat.{mul-le-mul_left, mul-le-mul_right}
use Rattle.opt_sums.specs.Sums.{at}
use Rattle.opt_model.specs.Tables.{Tables}
use Rattle.opt_model.specs.Quantities.{quantities, high, of_record, same_quantity, is_offered, has_order}
use Rattle.opt_model.specs.Rows.{coefficient}
use Rattle.opt_model.specs.Plans.{goal_terms}
use Rattle.opt_model.specs.declared.records.Goal.{Goal}
use Rattle.opt_model.specs.declared.records.Goal.TheVariants.{Cost, Shortfall}
use Rattle.opt_model.specs.declared.records.Arc.{Arc}
use Rattle.opt_model.specs.declared.records.Place.{Place}
use Rattle.opt_model.specs.declared.quantity.Quantity.{Quantity}
use Rattle.opt_model.specs.declared.quantity.Quantity.TheVariants.{Ration, Short, Buy, Ship, Keep, Feed, Order}
use Rattle.opt_model.proofs.Quantities.{same_quantity-self}
use Rattle.opt_system.specs.declared.limits.TheConstants.{SIZE_LIMIT}
use Rattle.opt_system.specs.Systems.{IsSmallBy, AreSmallCosts}
use Rattle.opt_tables.specs.Facts.{IsModel, IsOffer, IsArc, IsPlace, IsNeed, IsFrom, IsPrice}
use Rattle.opt_network.specs.Numbering.{Numbering, IsLayoutOf, IsNumbering, IsSpan, has_record, has_record_where, has_month, has_quantity}
use Rattle.opt_network.proofs.Once.{bit}
use Rattle.opt_network.proofs.Lookups.{counted-there}
use Rattle.opt_network.proofs.OneToOne.{counted_once}
use Rattle.opt_rows.specs.Systems.{costs_of}
use Rattle.opt_rows.specs.Costs.{mills_of, weight_of, unit_cost}
use Rattle.opt_rows.proofs.UnitCosts.{There, there_where, there_at, of_there, units_are}

-- ---- products
size_from : (z : ℤ) (n : ℕ) → pos 0 ≤ℤ z → z ≤ℤ pos n → unsigned_abs z ≤ n
size_from z n low high = omega (arith, ints)

-- a number up to a, for a quantity up to b
small_product : (z h : ℤ) (a b : ℕ) → IsFrom (pos 0) (pos a) z → IsFrom (pos 0) (pos b) h → 1 ≤ b → a * b < SIZE_LIMIT → IsSmallBy z h
small_product z h a b zs hs some below =
    let first : unsigned_abs z ≤ a = size_from z a zs.above zs.below in
    let second : unsigned_abs h ≤ b = size_from h b hs.above hs.below in
    let both : max (unsigned_abs h) 1 ≤ b = omega arith in
    omega (arith, mul-le-mul_right (max (unsigned_abs h) 1) first, mul-le-mul_left a both)

small_none : (h : ℤ) → IsSmallBy (pos 0) h
small_none h = omega (arith, zero-mul (max (unsigned_abs h) 1))

-- what holds of all records holds of one that is there
pub at_there : {A : Type 0} (P : A → Type 0) (xs : List A) (i : ℕ) (x : A) → There xs i x → All P xs → P x
at_there P xs i x there all = subst P (sym there.is) (all i x there.within)

-- what a unit adds is from 0 on, and small for the greatest value of the quantity
pub record IsSmallCost (z h : ℤ) : Type 0 where
  pub from_zero : pos 0 ≤ℤ z
  pub small : IsSmallBy z h

no_cost : (h : ℤ) → IsSmallCost (pos 0) h
no_cost h = record { from_zero = omega (arith, ints); small = small_none h }

some_cost : (z h x y : ℤ) (a b : ℕ) → z ≡ x → h ≡ y → IsFrom (pos 0) (pos a) x → IsFrom (pos 0) (pos b) y → 1 ≤ b → a * b < SIZE_LIMIT → IsSmallCost z h
some_cost z h x y a b e f xs ys some below =
    let zs : IsFrom (pos 0) (pos a) z = subst (IsFrom (pos 0) (pos a)) (sym e) xs in
    let hs : IsFrom (pos 0) (pos b) h = subst (IsFrom (pos 0) (pos b)) (sym f) ys in
    record { from_zero = zs.above; small = small_product z h a b zs hs some below }

module _ (t : Tables) (model : IsModel t) where
  mills_small : (q : Quantity) → has_quantity t q ≡ true → IsSmallCost (mills_of t q) (high t q)
  mills_small (Ration b c m) h = no_cost (high t (Ration b c m))
  mills_small (Short d m) h = no_cost (high t (Short d m))
  mills_small (Buy o m) h =
      let parts = and_parts (has_record_where (λ offer. is_offered offer m) t.offers o) (has_month t m) h in
      let offer = there_where (λ r. is_offered r m) t.offers o parts.0 in
      let fact : IsOffer t offer.0 = at_there (IsOffer t) t.offers o offer.0 offer.1 model.offers in
      some_cost (mills_of t (Buy o m)) (high t (Buy o m)) offer.0.price offer.0.max_kg (10 ^ 6) (10 ^ 9)
      (of_there t.offers o offer.0 (λ r. r.price) offer.1) (of_there t.offers o offer.0 (λ r. r.max_kg) offer.1) fact.price fact.max_kg (omega arith) (omega arith)
  mills_small (Ship a c m) h =
      let parts = and_parts (has_record_where (λ arc. nat_le (m + arc.lead) t.settings.months) t.arcs a) (has_record t.commodities c && has_month t m) h in
      let arc = there_where (λ r. nat_le (m + r.lead) t.settings.months) t.arcs a parts.0 in
      let fact : IsArc t arc.0 = at_there (IsArc t) t.arcs a arc.0 arc.1 model.arcs in
      let place = there_at t.places arc.0.to_place (lt-ltb arc.0.to_place (length t.places) fact.to_place) in
      let place_fact : IsPlace place.0 = at_there IsPlace t.places arc.0.to_place place.0 place.1 model.places in
      let handled : of_record t.places arc.0.to_place (λ r. r.handling) ≡ place.0.handling = of_there t.places arc.0.to_place place.0 (λ r. r.handling) place.1 in
      some_cost (mills_of t (Ship a c m)) (high t (Ship a c m)) (arc.0.cost +ℤ place.0.handling) arc.0.capacity (2 * 10 ^ 6) (10 ^ 9)
      (of_there t.arcs a arc.0 (λ r. r.cost +ℤ of_record t.places r.to_place (λ p. p.handling)) arc.1 ∙ ap (λ z. arc.0.cost +ℤ z) handled)
      (of_there t.arcs a arc.0 (λ r. r.capacity) arc.1)
      (both_prices arc.0.cost place.0.handling fact.cost place_fact.handling) fact.capacity (omega arith) (omega arith)
    where
      both_prices : (x y : ℤ) → IsPrice x → IsPrice y → IsFrom (pos 0) (pos (2 * 10 ^ 6)) (x +ℤ y)
      both_prices x y xs ys = record { above = omega (arith, ints, xs.above, ys.above); below = omega (arith, ints, xs.below, ys.below) }
  mills_small (Keep p c m) h =
      let parts = and_parts (has_record_where (λ place. int_lt (pos 0) place.storage) t.places p) (has_record t.commodities c && has_month t m) h in
      let place = there_where (λ r. int_lt (pos 0) r.storage) t.places p parts.0 in
      let fact : IsPlace place.0 = at_there IsPlace t.places p place.0 place.1 model.places in
      some_cost (mills_of t (Keep p c m)) (high t (Keep p c m)) place.0.storage_cost place.0.storage (10 ^ 6) (10 ^ 9)
      (of_there t.places p place.0 (λ r. r.storage_cost) place.1) (of_there t.places p place.0 (λ r. r.storage) place.1) fact.storage_cost fact.storage (omega arith) (omega arith)
  mills_small (Feed p c m) h = no_cost (high t (Feed p c m))
  mills_small (Order o m) h =
      let parts = and_parts (has_record_where (λ offer. is_offered offer m && has_order offer) t.offers o) (has_month t m) h in
      let offer = there_where (λ r. is_offered r m && has_order r) t.offers o parts.0 in
      let fact : IsOffer t offer.0 = at_there (IsOffer t) t.offers o offer.0 offer.1 model.offers in
      some_cost (mills_of t (Order o m)) (pos 1) offer.0.fee (pos 1) (10 ^ 12) 1
      (of_there t.offers o offer.0 (λ r. r.fee) offer.1) refl fact.fee (record { above = omega (arith, ints); below = omega (arith, ints) }) (omega arith) (omega arith)

  weights_small : (q : Quantity) → has_quantity t q ≡ true → IsSmallCost (weight_of t q) (high t q)
  weights_small (Ration b c m) h = no_cost (high t (Ration b c m))
  weights_small (Short d m) h =
      let parts = and_parts (has_record t.needs d) (has_month t m) h in
      let need = there_at t.needs d parts.0 in
      let fact : IsNeed need.0 = at_there IsNeed t.needs d need.0 need.1 model.needs in
      some_cost (weight_of t (Short d m)) (high t (Short d m)) need.0.weight need.0.max_short (10 ^ 6) (10 ^ 9)
      (of_there t.needs d need.0 (λ r. r.weight) need.1) (of_there t.needs d need.0 (λ r. r.max_short) need.1) fact.weight fact.max_short (omega arith) (omega arith)
  weights_small (Buy o m) h = no_cost (high t (Buy o m))
  weights_small (Ship a c m) h = no_cost (high t (Ship a c m))
  weights_small (Keep p c m) h = no_cost (high t (Keep p c m))
  weights_small (Feed p c m) h = no_cost (high t (Feed p c m))
  weights_small (Order o m) h = no_cost (high t (Order o m))

  pub units_small : (goal : Goal) (q : Quantity) → has_quantity t q ≡ true → IsSmallCost (unit_cost t goal q) (high t q)
  units_small Cost q h = mills_small q h
  units_small Shortfall q h = weights_small q h

-- ---- the list of costs
-- each quantity of the list exists
pub exists_at : (t : Tables) (j : ℕ) (d : Quantity) → j < length (quantities t) → has_quantity t (get_or (quantities t) j d) ≡ true
exists_at t j d within =
    let q : Quantity = get_or (quantities t) j d in
    by (has_quantity t q) (omega (arith, counted_once t q, counted-there (same_quantity q) (quantities t) j q (slice_get-get_or (quantities t) j d within) (same_quantity-self q)))
  where
    by : (b : Bool) → 1 ≤ bit b → b ≡ true
    by true h = refl
    by false h = absurd (omega arith)

-- the costs, quantity by quantity
pub unit_at : (t : Tables) (goal : Goal) (j : ℕ) (d : Quantity) → j < length (quantities t) → at (costs_of t goal) j ≡ unit_cost t goal (get_or (quantities t) j d)
unit_at t goal j d within =
    get_or-map _ (quantities t) j d (pos 0) within ∙ units_are t goal (get_or (quantities t) j d) (exists_at t j d within)

-- a quantity that stands for none
abbrev any_quantity : Quantity
any_quantity = Ration 0 0 0

-- the costs are small for the greatest values of their quantities
pub costs_small : (t : Tables) (goal : Goal) (highs : List ℤ) → IsModel t → highs ≡ map (high t) (quantities t)
    → ((j : ℕ) → j < length highs → unsigned_abs (at highs j) < SIZE_LIMIT) → AreSmallCosts (costs_of t goal) highs
costs_small t goal highs model e few = record {
  from_zero = λ j below.
      let within : j < length (quantities t) = omega (arith, length-map (quantities t) (coefficient (goal_terms t goal))) in
      subst (λ (z : ℤ). pos 0 ≤ℤ z) (sym (unit_at t goal j any_quantity within)) (units_small t model goal (get_or (quantities t) j any_quantity) (exists_at t j any_quantity within)).from_zero;
  small = λ j below.
      let within : j < length (quantities t) = omega (arith, length-map (quantities t) (coefficient (goal_terms t goal))) in
      let same : at highs j ≡ high t (get_or (quantities t) j any_quantity) = ap (λ (hs : List ℤ). at hs j) e ∙ get_or-map (high t) (quantities t) j any_quantity (pos 0) within in
      subst (λ (z : ℤ). IsSmallBy z (at highs j)) (sym (unit_at t goal j any_quantity within))
      (subst (λ (h : ℤ). IsSmallBy (unit_cost t goal (get_or (quantities t) j any_quantity)) h) (sym same)
      (units_small t model goal (get_or (quantities t) j any_quantity) (exists_at t j any_quantity within)).small);
  highs = λ j below. few j (omega (arith, length-map (quantities t) (coefficient (goal_terms t goal)), ap length e, length-map (quantities t) (high t)));
}

-- ---- as they are listed
-- one quantity more
pub costs_more : (f : Quantity → ℤ) (qs : List Quantity) (costs : List ℤ) (i : ℕ) (q : Quantity) → costs ≡ map f (take i qs) → Some q ≡ slice_get qs i → costs ++ f q ∷ [] ≡ map f (take (i + 1) qs)
costs_more f qs costs i q e there =
    let within : i < length qs = slice_get_within qs i q (sym there) in
    let is : get_or qs i q ≡ q = get_or_from_slice_get qs i q q (sym there) in
    ap (λ (cs : List ℤ). cs ++ f q ∷ []) e
    ∙ (ap (λ (r : Quantity). map f (take i qs) ++ f r ∷ []) (sym is) ∙ (sym (map-append f (take i qs) (get_or qs i q ∷ [])) ∙ ap (map f) (sym (take_more qs i q within))))

-- all quantities of a layout
pub costs_all : (t : Tables) (goal : Goal) (layout : Numbering) (costs : List ℤ) (i : ℕ) → IsLayoutOf t layout → i ≡ length layout.quantities
    → costs ≡ map (unit_cost t goal) (take i layout.quantities) → costs ≡ costs_of t goal
costs_all t goal layout costs i is all e =
    let whole : take i layout.quantities ≡ layout.quantities = ap (λ (n : ℕ). take n layout.quantities) all ∙ take-length layout.quantities in
    let these : layout.quantities ≡ quantities t = ap (λ (l : Numbering). l.quantities) is.same in
    e ∙ (ap (map (unit_cost t goal)) (whole ∙ these)
    ∙ same_lists (map (unit_cost t goal) (quantities t)) (costs_of t goal) (length-map (quantities t) (unit_cost t goal) ∙ sym (length-map (quantities t) (coefficient (goal_terms t goal))))
    (λ k d below.
    let within : k < length (quantities t) = omega (arith, length-map (quantities t) (unit_cost t goal)) in
    get_or-map (unit_cost t goal) (quantities t) k any_quantity d within
    ∙ (sym (units_are t goal (get_or (quantities t) k any_quantity) (exists_at t k any_quantity within)) ∙ sym (get_or-map (coefficient (goal_terms t goal)) (quantities t) k any_quantity d within))))

-- the costs are small for the ranges of the layout
pub layout_costs_small : (t : Tables) (goal : Goal) (layout : Numbering) → IsModel t → IsLayoutOf t layout → IsNumbering layout → AreSmallCosts (costs_of t goal) layout.highs
layout_costs_small t goal layout model is numbering =
    costs_small t goal layout.highs model (ap (λ (l : Numbering). l.highs) is.same)
    (λ j below.
    let span : IsSpan (at layout.lows j) (at layout.highs j) = numbering.spans j (omega (arith, numbering.highs)) in
    let low : pos 0 ≤ℤ at layout.highs j = omega (arith, ints, span.from_zero, span.rising) in
    let size : unsigned_abs (at layout.highs j) ≤ 2 ^ 40 = size_from (at layout.highs j) (2 ^ 40) low span.small in
    omega arith)

-- ---- prices
-- the handling at a place, or 0 where there is none
pub handling_price : (t : Tables) → IsModel t → (place : ℕ) → IsPrice (of_record t.places place (λ r. r.handling))
handling_price t model place = by (slice_get t.places place) refl
  where
    by : (o : Option Place) → slice_get t.places place ≡ o → IsPrice (option_map_or (λ r. r.handling) o (pos 0))
    by None e = record { above = omega (arith, ints); below = omega (arith, ints) }
    by (Some r) e =
        let there : There t.places place r = record { within = slice_get_within t.places place r e; is = sym (get_or_from_slice_get t.places place r r e) } in
        (at_there IsPlace t.places place r there model.places).handling

-- the cost of an arc that is there
pub arc_price : (t : Tables) → IsModel t → (i : ℕ) (arc : Arc) → i < length t.arcs → arc ≡ get_or t.arcs i arc → IsPrice arc.cost
arc_price t model i arc within is = (at_there (IsArc t) t.arcs i arc (record { within = within; is = is }) model.arcs).cost
