-- How many rows a system has, by its tables and its quantities.
use Rattle.std.proofs.Common.{◌≡◌, ℕ, ◌+◌, ◌*◌, ◌<◌, ◌≤◌, Bool, true, false, cond, List, [], ◌∷◌, ◌++◌, length, map, take, get_or, count_by, sum_by, Option, Some, None, ℤ, refl, ap, sym, ◌∙◌, arith, length-append}
use Rattle.std.specs.Prelude.{is_some, slice_get}
use Rattle.std.specs.List.{flat_map, enumerate_from, range_with_len}
use Rattle.std.specs.Int.{from_bool}
use Rattle.std.proofs.lemmas.List.{length-map}
use Rattle.std.proofs.lemmas.List.Sums.{sum_by-cons, count_by_more_yes, count_by_more_no}
use Rattle.std.proofs.lemmas.Option.{slice_get_within, get_or_from_slice_get}
use Rattle.opt_model.specs.Tables.{Tables}
use Rattle.opt_model.specs.Quantities.{list_if, rations, shorts, buys, ships, keeps, feeds, orders, quantities}
use Rattle.opt_model.specs.Rows.{rows}
use Rattle.opt_model.specs.declared.quantity.Quantity.{Quantity}
use Rattle.opt_model.specs.declared.quantity.Quantity.TheVariants.{Ration, Short, Buy, Ship, Keep, Feed, Order}
use Rattle.opt_network.specs.Counts.{departure_months, has_storage}
use Rattle.opt_network.proofs.Once.{bit, count_by-append, none-two, none-three}
use Rattle.opt_network.proofs.OneToOne.{ration_test, short_test, ship_test, keep_test}
use Rattle.opt_model.specs.Quantities.{is_offered}
use Rattle.opt_rows.specs.Counting.{has_throughput, has_two_rows}
use Rattle.opt_rows.specs.Systems.{row_over, cap_rows, system_rows}
use Rattle.opt_rows.proofs.RowCounts.{nutrient_count, group_count, handout_count, balance_count, arc_count, storage_count, throughput_count, budget_count, lot_count, row_count}

-- ---- quantities with two rows of their own
-- parts of which each passes a test whole
module _ {X B : Type 0} (p : B → Bool) (f : X → List B) where
  all_counted : ((x : X) → count_by p (f x) ≡ length (f x)) → (xs : List X) → count_by p (flat_map f xs) ≡ length (flat_map f xs)
  all_counted h [] = refl
  all_counted h (x ∷ xs) = omega (arith, count_by-append p (f x) (flat_map f xs), length-append (f x) (flat_map f xs), h x, all_counted h xs)

one_counted : {B : Type 0} (p : B → Bool) (b : Bool) (y : B) → p y ≡ true → count_by p (list_if b (y ∷ [])) ≡ length (list_if b (y ∷ []))
one_counted p true y e =
    let one : bit (p y) ≡ 1 = ap bit e in
    omega (arith, sum_by-cons (λ z. cond (p z) 1 0) y [], one)
one_counted p false y e = refl

-- one quantity more
pub counted_more : (p : Quantity → Bool) (qs : List Quantity) (i : ℕ) (q : Quantity) → Some q ≡ slice_get qs i → count_by p (take (i + 1) qs) ≡ count_by p (take i qs) + from_bool (p q)
counted_more p qs i q there = by (p q) refl
  where
    within : i < length qs
    within = slice_get_within qs i q (sym there)

    is : get_or qs i q ≡ q
    is = get_or_from_slice_get qs i q q (sym there)

    by : (b : Bool) → p q ≡ b → count_by p (take (i + 1) qs) ≡ count_by p (take i qs) + from_bool (p q)
    by true e = count_by_more_yes p qs i q within (ap p is ∙ e) ∙ ap (λ b. count_by p (take i qs) + from_bool b) (sym e)
    by false e = count_by_more_no p qs i q within (ap p is ∙ e) ∙ (omega arith ∙ ap (λ b. count_by p (take i qs) + from_bool b) (sym e))

pub bool_few : (b : Bool) → from_bool b ≤ 1
bool_few true = omega arith
bool_few false = omega arith

module _ (t : Tables) where
  feeds_counted : count_by has_two_rows (feeds t) ≡ length (feeds t)
  feeds_counted =
      all_counted has_two_rows _ (λ p. all_counted has_two_rows _ (λ c. all_counted has_two_rows _ (λ m. one_counted has_two_rows _ (Feed p.0 c.0 m) refl) (range_with_len 1 t.settings.months)) (enumerate_from 0 t.commodities)) (enumerate_from 0 t.places)

  orders_counted : count_by has_two_rows (orders t) ≡ length (orders t)
  orders_counted =
      all_counted has_two_rows _ (λ o. all_counted has_two_rows _ (λ m. one_counted has_two_rows _ (Order o.0 m) refl) (range_with_len 1 t.settings.months)) (enumerate_from 0 t.offers)

  none_rations : count_by has_two_rows (rations t) ≡ 0
  none_rations = none-three has_two_rows Ration t ration_test (λ n c k. refl) t.baskets

  none_shorts : count_by has_two_rows (shorts t) ≡ 0
  none_shorts = none-two has_two_rows Short t short_test (λ n k. refl) t.needs

  none_buys : count_by has_two_rows (buys t) ≡ 0
  none_buys = none-two has_two_rows Buy t is_offered (λ n k. refl) t.offers

  none_ships : count_by has_two_rows (ships t) ≡ 0
  none_ships = none-three has_two_rows Ship t (ship_test t) (λ n c k. refl) t.arcs

  none_keeps : count_by has_two_rows (keeps t) ≡ 0
  none_keeps = none-three has_two_rows Keep t keep_test (λ n c k. refl) t.places

  -- what is handed out, and orders
  own_counted : count_by has_two_rows (quantities t) ≡ length (feeds t) + length (orders t)
  own_counted =
      omega (
        arith,
        count_by-append has_two_rows (rations t) (shorts t ++ (buys t ++ (ships t ++ (keeps t ++ (feeds t ++ orders t))))),
        count_by-append has_two_rows (shorts t) (buys t ++ (ships t ++ (keeps t ++ (feeds t ++ orders t)))),
        count_by-append has_two_rows (buys t) (ships t ++ (keeps t ++ (feeds t ++ orders t))),
        count_by-append has_two_rows (ships t) (keeps t ++ (feeds t ++ orders t)),
        count_by-append has_two_rows (keeps t) (feeds t ++ orders t),
        count_by-append has_two_rows (feeds t) (orders t),
        none_rations,
        none_shorts,
        none_buys,
        none_ships,
        none_keeps,
        feeds_counted,
        orders_counted,
      )

  -- ---- all rows
  abbrev diet_rows : ℕ
  diet_rows = length t.needs * t.settings.months + length t.baskets * (length t.groups * t.settings.months) * 2

  abbrev balances : ℕ
  balances = length t.places * (length t.commodities * t.settings.months)

  abbrev departures : ℕ
  departures = sum_by (departure_months t) t.arcs

  abbrev place_rows : ℕ
  place_rows = count_by has_storage t.places * t.settings.months + count_by has_throughput t.places * t.settings.months

  abbrev own_rows : ℕ
  own_rows = 2 * count_by has_two_rows (quantities t)

  once : (n m : ℕ) → n * (m * 1) ≡ n * m
  once n m = grind arith

  turned : (n m : ℕ) → m * n ≡ n * m
  turned n m = grind arith

  twice : (a b m : ℕ) → a * (b * (m * 2)) ≡ a * (b * m) * 2
  twice a b m = grind arith

  balance_once : (a b m : ℕ) → a * (b * (m * 1)) ≡ a * (b * m)
  balance_once a b m = grind arith

  bit_is : (b : Bool) → cond b 1 0 ≡ from_bool b
  bit_is true = refl
  bit_is false = refl

  capped : (cap : Option ℤ) → length (cap_rows t cap) ≡ from_bool (is_some cap)
  capped None = refl
  capped (Some limit) = refl

  counted_rows : length (rows t) ≡ (diet_rows + (balances + (departures + (place_rows + own_rows)))) + from_bool (is_some t.settings.budget)
  counted_rows =
      omega (
        arith,
        row_count t,
        nutrient_count t,
        once (length t.needs) t.settings.months,
        group_count t,
        twice (length t.baskets) (length t.groups) t.settings.months,
        handout_count t,
        balance_count t,
        balance_once (length t.places) (length t.commodities) t.settings.months,
        arc_count t,
        storage_count t,
        turned (count_by has_storage t.places) t.settings.months,
        throughput_count t,
        turned (count_by has_throughput t.places) t.settings.months,
        budget_count t t.settings.budget,
        bit_is (is_some t.settings.budget),
        lot_count t,
        own_counted,
      )

  -- with the row of a cap
  pub counted : (cap : Option ℤ) → length (system_rows t cap)
      ≡ (diet_rows + (balances + (departures + (place_rows + own_rows)))) + (from_bool (is_some t.settings.budget) + from_bool (is_some cap))
  counted cap =
      omega (arith, length-append (map (row_over (quantities t)) (rows t)) (cap_rows t cap), length-map (rows t) (row_over (quantities t)), counted_rows, capped cap)
