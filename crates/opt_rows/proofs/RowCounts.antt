-- How many rows a model has, kind by kind, in terms of how many quantities it has.
use Rattle.std.proofs.Common.{◌≡◌, ℕ, ◌+◌, ◌*◌, Bool, true, false, ◌&&◌, cond, List, [], ◌∷◌, ◌++◌, length, count_by, sum_by, Option, Some, None, ℤ, pos, refl, ap, sym, ◌∙◌, arith, length-append}
use Rattle.std.specs.Prelude.{is_some, int_le}
use Rattle.std.specs.List.{flat_map, enumerate_from, range_with_len}
use Rattle.std.proofs.lemmas.List.Sums.{sum_by-cons}
use Rattle.std.proofs.lemmas.List.FromFn.{length-enumerate_from, length-range_with_len}
use Rattle.opt_model.specs.Tables.{Tables}
use Rattle.opt_model.specs.Quantities.{over, over_months, list_if, is_point, is_offered, has_order, all_heads, feeds, orders}
use Rattle.opt_model.specs.Rows.{rows}
use Rattle.opt_model.specs.declared.records.Place.{Place}
use Rattle.opt_model.specs.declared.records.Offer.{Offer}
use Rattle.opt_model.specs.declared.quantity.Quantity.{Quantity}
use Rattle.opt_model.specs.declared.quantity.Quantity.TheVariants.{Feed, Order}
use Rattle.opt_model.specs.declared.quantity.RowName.{RowName}
use Rattle.opt_model.specs.declared.quantity.RowName.TheVariants as row
use Rattle.opt_network.specs.Counts.{arrives, departure_months, has_storage}
use Rattle.opt_rows.specs.Counting.{has_throughput}
use Rattle.opt_rows.specs.Names.{nutrient_names_of, nutrient_names, group_names_of, group_names_in, group_names, handout_names_in, handout_names_of, handout_names_at, handout_names, balance_names_of, balance_names_at, balance_names, arc_names_of, arc_names, storage_names, throughput_names_in, throughput_names, budget_names, lot_names_in, lot_names_of, lot_names, limit_names}
use Rattle.opt_rows.proofs.RowNames.{count_named}

-- parts that are n times as long make a list that is
times_as_long : {X B C : Type 0} (n : ℕ) (f : X → List B) (g : X → List C) (xs : List X) → ((x : X) → length (f x) ≡ n * length (g x)) → length (flat_map f xs) ≡ n * length (flat_map g xs)
times_as_long n f g [] h = grind arith
times_as_long n f g (x ∷ xs) h =
    length-append (f x) (flat_map f xs)
    ∙ (ap (λ k. k + length (flat_map f xs)) (h x)
    ∙ (ap (λ k. n * length (g x) + k) (times_as_long n f g xs h) ∙ (grind arith ∙ ap (λ k. n * k) (sym (length-append (g x) (flat_map g xs))))))

-- parts of one length
parts_of : {X B : Type 0} (n : ℕ) (f : X → List B) (xs : List X) → ((x : X) → length (f x) ≡ n) → length (flat_map f xs) ≡ length xs * n
parts_of n f [] h = grind arith
parts_of n f (x ∷ xs) h = length-append (f x) (flat_map f xs) ∙ (ap (λ k. k + length (flat_map f xs)) (h x) ∙ (ap (λ k. n + k) (parts_of n f xs h) ∙ grind arith))

-- parts of which each has a length of its own
parts_sum : {X B : Type 0} (f : X → List B) (g : X → ℕ) (xs : List X) → ((x : X) → length (f x) ≡ g x) → length (flat_map f xs) ≡ sum_by g xs
parts_sum f g [] h = refl
parts_sum f g (x ∷ xs) h = omega (arith, length-append (f x) (flat_map f xs), h x, parts_sum f g xs h, sum_by-cons g x xs)

numbers_left_out : {A : Type 0} (g : A → ℕ) (k : ℕ) (xs : List A) → sum_by (λ r. g r.1) (enumerate_from k xs) ≡ sum_by g xs
numbers_left_out g k [] = refl
numbers_left_out g k (x ∷ xs) = omega (arith, sum_by-cons (λ r. g r.1) (k, x) (enumerate_from (k + 1) xs), sum_by-cons g x xs, numbers_left_out g (k + 1) xs)

sum_times : {A : Type 0} (g : A → ℕ) (n : ℕ) (xs : List A) → sum_by (λ x. n * g x) xs ≡ n * sum_by g xs
sum_times g n [] = grind arith
sum_times g n (x ∷ xs) =
    sum_by-cons (λ x. n * g x) x xs ∙ (ap (λ k. n * g x + k) (sum_times g n xs) ∙ (grind arith ∙ sym (ap (λ k. n * k) (sum_by-cons g x xs))))

-- two for one, where a test holds
two_for_one : {B C : Type 0} (b : Bool) (x y : B) (z : C) → length (list_if b (x ∷ y ∷ [])) ≡ 2 * length (list_if b (z ∷ []))
two_for_one true x y z = refl
two_for_one false x y z = refl

one_if : {B : Type 0} (b : Bool) (x : B) → length (list_if b (x ∷ [])) ≡ cond b 1 0
one_if true x = refl
one_if false x = refl

module _ (t : Tables) where
  abbrev months : List ℕ
  months = range_with_len 1 t.settings.months

  each_month : {B : Type 0} (n : ℕ) (f : ℕ → List B) → ((m : ℕ) → length (f m) ≡ n) → length (flat_map f months) ≡ t.settings.months * n
  each_month n f h = parts_of n f months h ∙ ap (λ k. k * n) (length-range_with_len 1 t.settings.months)

  each_record : {A B : Type 0} (n : ℕ) (f : ℕ × A → List B) (xs : List A) → ((r : ℕ × A) → length (f r) ≡ n) → length (flat_map f (enumerate_from 0 xs)) ≡ length xs * n
  each_record n f xs h = parts_of n f (enumerate_from 0 xs) h ∙ ap (λ k. k * n) (length-enumerate_from 0 xs)

  -- a row for each need and month
  pub nutrient_count : length (nutrient_names t) ≡ length t.needs * (t.settings.months * 1)
  nutrient_count =
      each_record (t.settings.months * 1) (λ r. nutrient_names_of t r.1) t.needs (λ r. each_month 1 (λ m. row.Nutrient r.1.basket r.1.nutrient m ∷ []) (λ m. refl))

  -- two rows for each basket, group and month
  pub group_count : length (group_names t) ≡ length t.baskets * (length t.groups * (t.settings.months * 2))
  group_count =
      each_record (length t.groups * (t.settings.months * 2)) (λ b. group_names_in t b.0) t.baskets (λ b.
      each_record (t.settings.months * 2) (λ g. group_names_of t b.0 g.0) t.groups (λ g.
      each_month 2 (λ m. row.GroupLow b.0 g.0 m ∷ row.GroupHigh b.0 g.0 m ∷ []) (λ m. refl)))

  -- two rows of handing out for each quantity that is handed out
  pub handout_count : length (handout_names t) ≡ 2 * length (feeds t)
  handout_count =
      times_as_long 2 (λ p. handout_names_at t p.0 p.1) (λ p. over t.commodities λ c _. over_months t λ m. fed_in p c m) (enumerate_from 0 t.places) (λ p.
      times_as_long 2 (λ c. handout_names_of t p.0 p.1 c.0) (λ c. over_months t λ m. fed_in p c.0 m) (enumerate_from 0 t.commodities) (λ c.
      times_as_long 2 (λ m. handout_names_in t p.0 p.1 c.0 m) (λ m. fed_in p c.0 m) months (λ m.
      two_for_one (is_point p.1.kind && int_le (pos 1) (all_heads t p.0 m)) (row.HandoutLow p.0 c.0 m) (row.HandoutHigh p.0 c.0 m) (Feed p.0 c.0 m))))
    where
      fed_in : ℕ × Place → ℕ → ℕ → List Quantity
      fed_in p c m = list_if (is_point p.1.kind && int_le (pos 1) (all_heads t p.0 m)) (Feed p.0 c m ∷ [])

  -- a row for each place, commodity and month
  pub balance_count : length (balance_names t) ≡ length t.places * (length t.commodities * (t.settings.months * 1))
  balance_count =
      each_record (length t.commodities * (t.settings.months * 1)) (λ p. balance_names_at t p.0) t.places (λ p.
      each_record (t.settings.months * 1) (λ c. balance_names_of t p.0 c.0) t.commodities (λ c.
      each_month 1 (λ m. row.Balance p.0 c.0 m ∷ []) (λ m. refl)))

  -- a row for each arc and month with a departure
  pub arc_count : length (arc_names t) ≡ sum_by (departure_months t) t.arcs
  arc_count =
      parts_sum (λ a. arc_names_of t a.0 a.1) (λ a. departure_months t a.1) (enumerate_from 0 t.arcs) (λ a.
      parts_sum (λ m. list_if (arrives t.settings.months a.1 m) (row.Arc a.0 m ∷ [])) (λ m. cond (arrives t.settings.months a.1 m) 1 0) months
      (λ m. one_if (arrives t.settings.months a.1 m) (row.Arc a.0 m)))
      ∙ numbers_left_out (departure_months t) 0 t.arcs

  -- a row for each place that passes a test and month
  tested_count : (test : Place → Bool) (f : ℕ × Place → ℕ → List RowName) → ((p : ℕ × Place) (m : ℕ) → length (f p m) ≡ cond (test p.1) 1 0)
      → length (flat_map (λ p. flat_map (f p) months) (enumerate_from 0 t.places)) ≡ t.settings.months * count_by test t.places
  tested_count test f h =
      parts_sum (λ p. flat_map (f p) months) (λ p. t.settings.months * cond (test p.1) 1 0) (enumerate_from 0 t.places) (λ p. each_month (cond (test p.1) 1 0) (f p) (h p))
      ∙ (numbers_left_out (λ place. t.settings.months * cond (test place) 1 0) 0 t.places ∙ sum_times (λ place. cond (test place) 1 0) t.settings.months t.places)

  pub storage_count : length (storage_names t) ≡ t.settings.months * count_by has_storage t.places
  storage_count = tested_count has_storage (λ p m. list_if (has_storage p.1) (row.Storage p.0 m ∷ [])) (λ p m. one_if (has_storage p.1) (row.Storage p.0 m))

  pub throughput_count : length (throughput_names t) ≡ t.settings.months * count_by has_throughput t.places
  throughput_count = tested_count has_throughput (λ p m. throughput_names_in p.0 p.1.throughput m) (λ p m. one_limit p.0 p.1.throughput m)
    where
      one_limit : (p : ℕ) (limit : Option ℤ) (m : ℕ) → length (throughput_names_in p limit m) ≡ cond (is_some limit) 1 0
      one_limit p None m = refl
      one_limit p (Some limit) m = refl

  -- a row for a budget
  pub budget_count : (budget : Option ℤ) → length (budget_names budget) ≡ cond (is_some budget) 1 0
  budget_count None = refl
  budget_count (Some limit) = refl

  -- two rows of a lot for each order
  pub lot_count : length (lot_names t) ≡ 2 * length (orders t)
  lot_count =
      times_as_long 2 (λ o. lot_names_of t o.0 o.1) (λ o. over_months t λ m. ordered_in o m) (enumerate_from 0 t.offers) (λ o.
      times_as_long 2 (λ m. lot_names_in o.0 o.1 m) (λ m. ordered_in o m) months (λ m.
      two_for_one (is_offered o.1 m && has_order o.1) (row.LotLow o.0 m) (row.LotHigh o.0 m) (Order o.0 m)))
    where
      ordered_in : ℕ × Offer → ℕ → List Quantity
      ordered_in o m = list_if (is_offered o.1 m && has_order o.1) (Order o.0 m ∷ [])

  -- the rows of all kinds together
  pub row_count : length (rows t)
      ≡ length (nutrient_names t) + (length (group_names t) + (length (handout_names t) + (length (balance_names t)
      + (length (arc_names t) + (length (storage_names t) + (length (throughput_names t) + (length (budget_names t.settings.budget) + length (lot_names t))))))))
  row_count =
      omega (
        arith,
        count_named t,
        length-append (nutrient_names t) (group_names t ++ (handout_names t ++ (balance_names t ++ limit_names t))),
        length-append (group_names t) (handout_names t ++ (balance_names t ++ limit_names t)),
        length-append (handout_names t) (balance_names t ++ limit_names t),
        length-append (balance_names t) (limit_names t),
        length-append (arc_names t) (storage_names t ++ (throughput_names t ++ (budget_names t.settings.budget ++ lot_names t))),
        length-append (storage_names t) (throughput_names t ++ (budget_names t.settings.budget ++ lot_names t)),
        length-append (throughput_names t) (budget_names t.settings.budget ++ lot_names t),
        length-append (budget_names t.settings.budget) (lot_names t),
      )
