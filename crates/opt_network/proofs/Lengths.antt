-- How long the lists of quantities are.
use Rattle.std.proofs.Common.{◌≡◌, ℕ, ◌+◌, ◌*◌, zero, suc, Bool, true, false, cond, List, [], ◌∷◌, ◌++◌, length, count_by, sum_by, refl, sym, ap, ◌∙◌, arith, length-append, append-nil, zero-mul}
use Rattle.std.specs.List.{flat_map, enumerate_from, range_with_len}
use Rattle.std.proofs.lemmas.List.Sums.{sum_by-cons}
use Rattle.std.proofs.lemmas.List.FromFn.{length-range_with_len}
use Rattle.std.proofs.Math.Nat.{mul_comm}
use Rattle.opt_model.specs.Tables.{Tables}
use Rattle.opt_model.specs.Quantities.{over, over_months, list_if, is_offered, rations, shorts, buys, ships, keeps, feeds, orders, quantities}
use Rattle.opt_model.specs.declared.quantity.Quantity.{Quantity}
use Rattle.opt_model.specs.declared.quantity.Quantity.TheVariants.{Ration, Short, Buy, Ship, Keep, Feed, Order}
use Rattle.opt_model.proofs.Sums.{over_from, over-empty}
use Rattle.opt_network.specs.Counts.{month_count, offered_months, ordered_months, is_ordered, arrives, departure_months, is_fed, fed_months, has_storage, sum_numbered}
use Rattle.opt_network.proofs.Once.{bit}

length-list_if : {X : Type 0} (b : Bool) (x : X) → length (list_if b (x ∷ [])) ≡ bit b
length-list_if true x = refl
length-list_if false x = refl

length-months : {B : Type 0} (test : ℕ → Bool) (mk : ℕ → B) (a n : ℕ) → length (flat_map (λ k. list_if (test k) (mk k ∷ [])) (range_with_len a n)) ≡ count_by test (range_with_len a n)
length-months test mk a zero = refl
length-months test mk a (suc n) =
    omega (
      arith,
      length-append (list_if (test a) (mk a ∷ [])) (flat_map (λ k. list_if (test k) (mk k ∷ [])) (range_with_len (a + 1) n)),
      length-list_if (test a) (mk a),
      length-months test mk (a + 1) n,
      sum_by-cons (λ k. cond (test k) 1 0) a (range_with_len (a + 1) n),
    )

-- one for each month that passes a test
length-over_months : {B : Type 0} (t : Tables) (test : ℕ → Bool) (mk : ℕ → B) → length (over_months t λ k. list_if (test k) (mk k ∷ [])) ≡ month_count t.settings.months test
length-over_months t test mk = length-months test mk 1 t.settings.months

count-all : {X : Type 0} (xs : List X) → count_by (λ _. true) xs ≡ length xs
count-all [] = refl
count-all (x ∷ xs) = omega (arith, sum_by-cons (λ x. cond true 1 0) x xs, count-all xs)

-- one for each month
length-every_month : {B : Type 0} (t : Tables) (mk : ℕ → B) → length (over_months t λ k. mk k ∷ []) ≡ t.settings.months
length-every_month t mk = length-over_months t (λ _. true) mk ∙ (count-all (range_with_len 1 t.settings.months) ∙ length-range_with_len 1 t.settings.months)

module _ {A B : Type 0} (f : ℕ → A → List B) (g : ℕ → A → ℕ) where
  length-over_from : ((n : ℕ) (x : A) → length (f n x) ≡ g n x) → (k : ℕ) (xs : List A) → length (over_from f k xs) ≡ sum_by (λ r. g r.0 r.1) (enumerate_from k xs)
  length-over_from h k [] = refl
  length-over_from h k (x ∷ xs) =
      omega (arith, length-append (f k x) (over_from f (k + 1) xs), h k x, length-over_from h (k + 1) xs, sum_by-cons (λ r. g r.0 r.1) (k, x) (enumerate_from (k + 1) xs))

-- the sums of all records' lengths
length-over : {A B : Type 0} (f : ℕ → A → List B) (g : ℕ → A → ℕ) → ((n : ℕ) (x : A) → length (f n x) ≡ g n x) → (xs : List A) → length (over xs f) ≡ sum_numbered xs g
length-over f g h xs = length-over_from f g h 0 xs

sum-same : {A : Type 0} (g : A → ℕ) (k : ℕ) (xs : List A) → sum_by (λ r. g r.1) (enumerate_from k xs) ≡ sum_by g xs
sum-same g k [] = refl
sum-same g k (x ∷ xs) = omega (arith, sum_by-cons (λ r. g r.1) (k, x) (enumerate_from (k + 1) xs), sum_by-cons g x xs, sum-same g (k + 1) xs)

sum-constant : {A : Type 0} (n : ℕ) (xs : List A) → sum_by (λ _. n) xs ≡ length xs * n
sum-constant n [] = sym (zero-mul n)
sum-constant n (x ∷ xs) = sum_by-cons (λ _. n) x xs ∙ (ap (λ k. n + k) (sum-constant n xs) ∙ grind arith)

sum-times : {A : Type 0} (g : A → ℕ) (n : ℕ) (xs : List A) → sum_by (λ x. n * g x) xs ≡ n * sum_by g xs
sum-times g n [] = grind arith
sum-times g n (x ∷ xs) =
    sum_by-cons (λ x. n * g x) x xs ∙ (ap (λ k. n * g x + k) (sum-times g n xs) ∙ (grind arith ∙ sym (ap (λ k. n * k) (sum_by-cons g x xs))))

-- records that add as many each
length-over_same : {A B : Type 0} (f : ℕ → A → List B) (n : ℕ) → ((k : ℕ) (x : A) → length (f k x) ≡ n) → (xs : List A) → length (over xs f) ≡ length xs * n
length-over_same f n h xs = length-over f (λ k x. n) h xs ∙ (sum-same (λ x. n) 0 xs ∙ sum-constant n xs)

-- ---- the lists of all kinds
pub length_rations : (t : Tables) → length (rations t) ≡ length t.baskets * (length t.commodities * t.settings.months)
length_rations t =
    length-over_same _ (length t.commodities * t.settings.months) (λ b _. length-over_same _ t.settings.months (λ c _. length-every_month t (λ m. Ration b c m)) t.commodities) t.baskets

pub length_shorts : (t : Tables) → length (shorts t) ≡ length t.needs * t.settings.months
length_shorts t = length-over_same _ t.settings.months (λ d _. length-every_month t (λ m. Short d m)) t.needs

pub length_buys : (t : Tables) → length (buys t) ≡ sum_by (offered_months t) t.offers
length_buys t =
    length-over _ (λ n x. offered_months t x) (λ n x. length-over_months t (is_offered x) (λ m. Buy n m)) t.offers ∙ sum-same (offered_months t) 0 t.offers

pub length_orders : (t : Tables) → length (orders t) ≡ sum_by (ordered_months t) t.offers
length_orders t =
    length-over _ (λ n x. ordered_months t x) (λ n x. length-over_months t (is_ordered x) (λ m. Order n m)) t.offers
    ∙ sum-same (ordered_months t) 0 t.offers

pub length_ships : (t : Tables) → length (ships t) ≡ length t.commodities * sum_by (departure_months t) t.arcs
length_ships t =
    length-over _ (λ n x. length t.commodities * departure_months t x)
    (λ n x. length-over_same _ (departure_months t x) (λ c _. length-over_months t (arrives t.settings.months x) (λ m. Ship n c m)) t.commodities) t.arcs
    ∙ (sum-same (λ x. length t.commodities * departure_months t x) 0 t.arcs ∙ sum-times (departure_months t) (length t.commodities) t.arcs)

-- a test that holds in all months or in none
same_in_months : (b : Bool) (a n : ℕ) → count_by (λ k. b) (range_with_len a n) ≡ n * bit b
same_in_months b a zero = sym (zero-mul (bit b))
same_in_months b a (suc n) = sum_by-cons (λ k. cond b 1 0) a (range_with_len (a + 1) n) ∙ (ap (λ k. bit b + k) (same_in_months b (a + 1) n) ∙ grind arith)

pub length_keeps : (t : Tables) → length (keeps t) ≡ length t.commodities * (count_by has_storage t.places * t.settings.months)
length_keeps t =
    let months = t.settings.months in
    length-over _ (λ n x. length t.commodities * (months * bit (has_storage x)))
    (λ n x. length-over_same _ (months * bit (has_storage x)) (λ c _. length-over_months t (λ m. has_storage x) (λ m. Keep n c m) ∙ same_in_months (has_storage x) 1 months) t.commodities) t.places
    ∙ (sum-same (λ x. length t.commodities * (months * bit (has_storage x))) 0 t.places
    ∙ (sum-times (λ x. months * bit (has_storage x)) (length t.commodities) t.places
    ∙ ap (λ k. length t.commodities * k) (sum-times (λ x. bit (has_storage x)) months t.places ∙ mul_comm months (count_by has_storage t.places))))

pub length_feeds : (t : Tables) → length (feeds t) ≡ length t.commodities * sum_numbered t.places (fed_months t)
length_feeds t =
    length-over _ (λ n x. length t.commodities * fed_months t n x)
    (λ n x. length-over_same _ (fed_months t n x) (λ c _. length-over_months t (is_fed t n x.kind) (λ m. Feed n c m)) t.commodities) t.places
    ∙ sum-times (λ r. fed_months t r.0 r.1) (length t.commodities) (enumerate_from 0 t.places)

-- all quantities
pub length_quantities : (t : Tables) → length (quantities t)
    ≡ length (rations t) + (length (shorts t) + (length (buys t) + (length (ships t) + (length (keeps t) + (length (feeds t) + length (orders t))))))
length_quantities t =
    omega (
      arith,
      length-append (rations t) (shorts t ++ (buys t ++ (ships t ++ (keeps t ++ (feeds t ++ orders t))))),
      length-append (shorts t) (buys t ++ (ships t ++ (keeps t ++ (feeds t ++ orders t)))),
      length-append (buys t) (ships t ++ (keeps t ++ (feeds t ++ orders t))),
      length-append (ships t) (keeps t ++ (feeds t ++ orders t)),
      length-append (keeps t) (feeds t ++ orders t),
      length-append (feeds t) (orders t),
    )

pub counted_quantities : (t : Tables) → length (quantities t)
    ≡ length (rations t) + (length (shorts t) + (sum_by (offered_months t) t.offers + (length (ships t) + (length (keeps t) + (length (feeds t) + sum_by (ordered_months t) t.offers)))))
counted_quantities t = omega (arith, length_quantities t, length_buys t, length_orders t)

-- ---- lists that are left out
empty_list : {X : Type 0} (xs : List X) → length xs ≡ 0 → xs ≡ []
empty_list [] e = refl
empty_list (x ∷ xs) e = absurd (omega arith)

-- a test that fails in all months
pub in_no_month : (b : Bool) (n : ℕ) → b ≡ false → month_count n (λ _. b) ≡ 0
in_no_month b n e = same_in_months b 1 n ∙ (ap (λ c. n * bit c) e ∙ grind arith)

-- where no month passes a test, nothing is added
pub none_listed : (t : Tables) (test : ℕ → Bool) (mk : ℕ → ℕ → Quantity) (old : List Quantity) → month_count t.settings.months test ≡ 0
    → old ≡ old ++ (over t.commodities λ c _. over_months t λ m. list_if (test m) (mk c m ∷ []))
none_listed t test mk old none =
    let empty = over-empty 0 t.commodities (λ c _. over_months t λ m. list_if (test m) (mk c m ∷ [])) (λ c _. empty_list _ (length-over_months t test (mk c) ∙ none)) in
    sym (append-nil old) ∙ ap (λ qs. old ++ qs) (sym empty)
