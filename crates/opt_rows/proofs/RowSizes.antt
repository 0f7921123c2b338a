-- The coefficients of rows are small for the greatest values of their quantities.
use Rattle.std.proofs.Common.{◌≡◌, ◌≢◌, ℕ, ◌+◌, ◌*◌, ◌^◌, ◌-◌, ◌≤◌, ◌<◌, ◌==◌, inl, inr, max, Bool, true, false, ◌&&◌, List, [], ◌∷◌, ◌++◌, ℤ, pos, ◌+ℤ◌, neg_ℤ, unsigned_abs, refl, ap, sym, ◌∙◌, arith, zero-mul}
use Rattle.std.specs.Prelude.{nat_lt}
use Rattle.std.proofs.lemmas.Int.{ints}
use Rattle.std.proofs.Math.Nat.{mul-le-mul_right}
use Rattle.std.proofs.lemmas.Bool.{cases_eq}
use Rattle.opt_sums.proofs.Ring.{size_add}
use Rattle.opt_model.specs.Tables.{Tables}
use Rattle.opt_model.specs.Quantities.{over, list_if, high, same_quantity}
use Rattle.opt_model.specs.Rows.{Terms, coefficient, negation, bought_terms, arrived_terms, sent_terms, kept_terms}
use Rattle.opt_model.specs.declared.quantity.Quantity.{Quantity}
use Rattle.opt_model.specs.declared.quantity.Quantity.TheVariants.{Ration, Short, Buy, Ship, Keep, Feed, Order}
use Rattle.opt_model.proofs.Quantities.{same_quantity-true}
use Rattle.opt_system.specs.declared.limits.TheConstants.{SIZE_LIMIT}
use Rattle.opt_system.specs.Systems.{IsSmallBy}
use Rattle.opt_model.proofs.Sums.{over_from}
use Rattle.opt_rows.proofs.Alone.{coefficient-append, one_off, records_none}

-- ---- the numbers by which lists of terms are made
abbrev pub offer_in : Quantity → ℕ
offer_in (Ration b c m) = 0
offer_in (Short d m) = 0
offer_in (Buy o m) = o
offer_in (Ship a c m) = 0
offer_in (Keep p c m) = 0
offer_in (Feed p c m) = 0
offer_in (Order o m) = o

abbrev pub arc_in : Quantity → ℕ
arc_in (Ration b c m) = 0
arc_in (Short d m) = 0
arc_in (Buy o m) = 0
arc_in (Ship a c m) = a
arc_in (Keep p c m) = 0
arc_in (Feed p c m) = 0
arc_in (Order o m) = 0

abbrev pub commodity_in : Quantity → ℕ
commodity_in (Ration b c m) = c
commodity_in (Short d m) = 0
commodity_in (Buy o m) = 0
commodity_in (Ship a c m) = c
commodity_in (Keep p c m) = c
commodity_in (Feed p c m) = c
commodity_in (Order o m) = 0

-- ---- a bound on the coefficient of one quantity, times its greatest value
module _ (q : Quantity) (most : ℕ) where
  -- the coefficient of the quantity, in size and times most, is at most s
  pub record Within (terms : Terms) (s : ℕ) : Type 0 where
    pub size : unsigned_abs (coefficient terms q) * most ≤ s

  within_none : (terms : Terms) → coefficient terms q ≡ pos 0 → Within terms 0
  within_none terms e = record { size = rw e (omega (arith, zero-mul most)) }

  pub within_weaker : (terms : Terms) (s r : ℕ) → s ≤ r → Within terms s → Within terms r
  within_weaker terms s r h w = record { size = omega (arith, w.size) }

  pub within_append : (xs ys : Terms) (s r : ℕ) → Within xs s → Within ys r → Within (xs ++ ys) (s + r)
  within_append xs ys s r v w =
      let sum : coefficient (xs ++ ys) q ≡ coefficient xs q +ℤ coefficient ys q = coefficient-append xs ys q in
      let size : unsigned_abs (coefficient (xs ++ ys) q) ≤ unsigned_abs (coefficient xs q) + unsigned_abs (coefficient ys q) = rw sum (size_add (coefficient xs q) (coefficient ys q)) in
      record { size = omega (arith, mul-le-mul_right most size, add_times (unsigned_abs (coefficient xs q)) (unsigned_abs (coefficient ys q)) most, v.size, w.size) }
    where
      add_times : (a b n : ℕ) → (a + b) * n ≡ a * n + b * n
      add_times a b n = grind arith

  negation_more : (term : Quantity × ℤ) (terms : Terms) → coefficient (negation terms) q ≡ neg_ℤ (coefficient terms q) → (b : Bool) → same_quantity term.0 q ≡ b
      → coefficient (negation (term ∷ terms)) q ≡ neg_ℤ (coefficient (term ∷ terms) q)
  negation_more term terms rest true e = rw e (omega (arith, ints, rest))
  negation_more term terms rest false e = rw e (omega (arith, ints, rest))

  pub coefficient-negation : (terms : Terms) → coefficient (negation terms) q ≡ neg_ℤ (coefficient terms q)
  coefficient-negation [] = refl
  coefficient-negation (term ∷ terms) = negation_more term terms (coefficient-negation terms) (same_quantity term.0 q) refl

  pub within_negation : (terms : Terms) (s : ℕ) → Within terms s → Within (negation terms) s
  within_negation terms s w =
      let same : unsigned_abs (coefficient (negation terms) q) ≡ unsigned_abs (coefficient terms q) = rw (coefficient-negation terms) (omega (arith, ints)) in
      record { size = rw same w.size }

  one_by : (p : Quantity) (z : ℤ) (s : ℕ) → (p ≡ q → unsigned_abs z * most ≤ s) → (b : Bool) → same_quantity p q ≡ b → Within ((p, z) ∷ []) s
  one_by p z s h true e =
      let here : p ≡ q = same_quantity-true p q e in
      let is : coefficient ((p, z) ∷ []) q ≡ z = rw e (omega (arith, ints)) in
      record { size = rw is (h here) }
  one_by p z s h false e =
      let is : coefficient ((p, z) ∷ []) q ≡ pos 0 = rw e refl in
      record { size = rw is (omega (arith, zero-mul most)) }

  -- one term
  pub within_one : (p : Quantity) (z : ℤ) (s : ℕ) → (p ≡ q → unsigned_abs z * most ≤ s) → Within ((p, z) ∷ []) s
  within_one p z s h = one_by p z s h (same_quantity p q) refl

  pub within_if : (b : Bool) (terms : Terms) (s : ℕ) → Within terms s → Within (list_if b terms) s
  within_if true terms s w = w
  within_if false terms s w = record { size = omega (arith, zero-mul most) }

  none_if : (b : Bool) (terms : Terms) → coefficient terms q ≡ pos 0 → coefficient (list_if b terms) q ≡ pos 0
  none_if true terms e = e
  none_if false terms e = refl

  -- past part i no part names it
  past_from : {A : Type 0} (g : ℕ → A → Terms) (i k : ℕ) (xs : List A) → i < k → ((j : ℕ) (y : A) → j ≢ i → coefficient (g j y) q ≡ pos 0) → coefficient (over_from g k xs) q ≡ pos 0
  past_from g i k [] past others = refl
  past_from g i k (x ∷ xs) past others =
      omega (arith, ints, coefficient-append (g k x) (over_from g (k + 1) xs) q, others k x (omega arith), past_from g i (k + 1) xs (omega arith) others)

  -- of the parts, numbered from k on, part i alone can name the quantity
  tagged_from : {A : Type 0} (g : ℕ → A → Terms) (i s k : ℕ) (xs : List A) → ((j : ℕ) (y : A) → Within (g j y) s) → ((j : ℕ) (y : A) → j ≢ i → coefficient (g j y) q ≡ pos 0)
      → Within (over_from g k xs) s
  tagged_from g i s k [] parts others = record { size = omega (arith, zero-mul most) }
  tagged_from g i s k (x ∷ xs) parts others =
      elim (cases_eq k i) [
        | inl e ↦
            let same : k ≡ i = e in
            let rest : coefficient (over_from g (k + 1) xs) q ≡ pos 0 = past_from g i (k + 1) xs (omega arith) others in
            let sum : coefficient (over_from g k (x ∷ xs)) q ≡ coefficient (g k x) q = omega (arith, ints, coefficient-append (g k x) (over_from g (k + 1) xs) q, rest) in
            record { size = rw sum (parts k x).size }
        | inr e ↦
            let apart : k ≢ i = e in
            let sum : coefficient (over_from g k (x ∷ xs)) q ≡ coefficient (over_from g (k + 1) xs) q = omega (arith, ints, coefficient-append (g k x) (over_from g (k + 1) xs) q, others k x apart) in
            record { size = rw sum (tagged_from g i s (k + 1) xs parts others).size }
      ]

  pub within_tagged : {A : Type 0} (g : ℕ → A → Terms) (i s : ℕ) (xs : List A) → ((j : ℕ) (y : A) → Within (g j y) s) → ((j : ℕ) (y : A) → j ≢ i → coefficient (g j y) q ≡ pos 0)
      → Within (over xs g) s
  within_tagged g i s xs parts others = tagged_from g i s 0 xs parts others

  -- ---- the terms of units
  module _ (t : Tables) where
    unit : (p : Quantity) → Within ((p, pos 1) ∷ []) most
    unit p = within_one p (pos 1) most (λ e. omega arith)

    pub bought_within : (place commodity month : ℕ) → Within (bought_terms t place commodity month) most
    bought_within place commodity month =
        within_tagged (λ o offer. list_if ((offer.place == place) && (offer.commodity == commodity)) ((Buy o month, pos 1) ∷ [])) (offer_in q) most t.offers
        (λ o offer. within_if ((offer.place == place) && (offer.commodity == commodity)) ((Buy o month, pos 1) ∷ []) most (unit (Buy o month)))
        (λ o offer apart. none_if ((offer.place == place) && (offer.commodity == commodity)) ((Buy o month, pos 1) ∷ []) (one_off (Buy o month) q (pos 1) (λ e. apart (ap offer_in e))))

    pub arrived_within : (place commodity month : ℕ) → Within (arrived_terms t place commodity month) most
    arrived_within place commodity month =
        within_tagged (λ a arc. list_if ((arc.to_place == place) && nat_lt arc.lead month) ((Ship a commodity (month - arc.lead), pos 1) ∷ [])) (arc_in q) most t.arcs
        (λ a arc. within_if ((arc.to_place == place) && nat_lt arc.lead month) ((Ship a commodity (month - arc.lead), pos 1) ∷ []) most (unit (Ship a commodity (month - arc.lead))))
        (λ a arc apart. none_if ((arc.to_place == place) && nat_lt arc.lead month) ((Ship a commodity (month - arc.lead), pos 1) ∷ [])
        (one_off (Ship a commodity (month - arc.lead)) q (pos 1) (λ e. apart (ap arc_in e))))

    pub sent_within : (place commodity month : ℕ) → Within (sent_terms t place commodity month) most
    sent_within place commodity month =
        within_tagged (λ a arc. list_if (arc.from_place == place) ((Ship a commodity month, pos 1) ∷ [])) (arc_in q) most t.arcs
        (λ a arc. within_if (arc.from_place == place) ((Ship a commodity month, pos 1) ∷ []) most (unit (Ship a commodity month)))
        (λ a arc apart. none_if (arc.from_place == place) ((Ship a commodity month, pos 1) ∷ []) (one_off (Ship a commodity month) q (pos 1) (λ e. apart (ap arc_in e))))

    pub kept_within : (place commodity month : ℕ) → Within (kept_terms place commodity month) most
    kept_within place commodity month = within_if (nat_lt 1 month) ((Keep place commodity (month - 1), pos 1) ∷ []) most (unit (Keep place commodity (month - 1)))

    -- a term for each commodity, as in the rows of arcs and of storage
    pub commodities_within : (Q : ℕ → Quantity) → ((c : ℕ) → commodity_in (Q c) ≡ c) → Within (over t.commodities λ c _. (Q c, pos 1) ∷ []) most
    commodities_within Q named =
        within_tagged (λ c _. (Q c, pos 1) ∷ []) (commodity_in q) most t.commodities (λ c _. unit (Q c))
        (λ c _ apart. one_off (Q c) q (pos 1) (λ e. apart (sym (named c) ∙ ap commodity_in e)))

    -- what arrives of all commodities
    pub arrivals_within : (place month : ℕ) → Within (over t.commodities λ c _. arrived_terms t place c month) most
    arrivals_within place month =
        within_tagged (λ c _. arrived_terms t place c month) (commodity_in q) most t.commodities (λ c _. arrived_within place c month)
        (λ c _ apart. records_none (λ a arc. list_if ((arc.to_place == place) && nat_lt arc.lead month) ((Ship a c (month - arc.lead), pos 1) ∷ [])) q t.arcs
        (λ a arc. none_if ((arc.to_place == place) && nat_lt arc.lead month) ((Ship a c (month - arc.lead), pos 1) ∷ [])
        (one_off (Ship a c (month - arc.lead)) q (pos 1) (λ e. apart (ap commodity_in e)))))

    minus_unit : (p : Quantity) → Within ((p, neg_ℤ (pos 1)) ∷ []) most
    minus_unit p = within_one p (neg_ℤ (pos 1)) most (λ e. omega arith)

    -- the left side of a balance
    pub balance_within : (p c m : ℕ) → Within (bought_terms t p c m
        ++ (arrived_terms t p c m
        ++ (kept_terms p c m ++ (negation (sent_terms t p c m) ++ (Keep p c m, neg_ℤ (pos 1)) ∷ (Feed p c m, neg_ℤ (pos 1)) ∷ [])))) (6 * most)
    balance_within p c m =
        let last : Terms = (Keep p c m, neg_ℤ (pos 1)) ∷ (Feed p c m, neg_ℤ (pos 1)) ∷ [] in
        let two : Within last (most + most) = within_append ((Keep p c m, neg_ℤ (pos 1)) ∷ []) ((Feed p c m, neg_ℤ (pos 1)) ∷ []) most most (minus_unit (Keep p c m)) (minus_unit (Feed p c m)) in
        let three = within_append (negation (sent_terms t p c m)) last most (most + most) (within_negation (sent_terms t p c m) most (sent_within p c m)) two in
        let four = within_append (kept_terms p c m) (negation (sent_terms t p c m) ++ last) most (most + (most + most)) (kept_within p c m) three in
        let five = within_append (arrived_terms t p c m) (kept_terms p c m ++ (negation (sent_terms t p c m) ++ last)) most (most + (most + (most + most))) (arrived_within p c m) four in
        within_weaker (bought_terms t p c m ++ (arrived_terms t p c m ++ (kept_terms p c m ++ (negation (sent_terms t p c m) ++ last)))) (most + (most + (most + (most + (most + most))))) (6 * most) (omega arith)
        (within_append (bought_terms t p c m) (arrived_terms t p c m ++ (kept_terms p c m ++ (negation (sent_terms t p c m) ++ last))) most (most + (most + (most + (most + most)))) (bought_within p c m) five)

-- a coefficient within the limit is small
pub small_within : (t : Tables) (q : Quantity) (terms : Terms) (s : ℕ) → Within q (max (unsigned_abs (high t q)) 1) terms s → s < SIZE_LIMIT → IsSmallBy (coefficient terms q) (high t q)
small_within t q terms s w below = omega (arith, w.size)

-- ---- rows of units, for quantities of at most 2^40
module _ (t : Tables) (q : Quantity) (few : unsigned_abs (high t q) ≤ 2 ^ 40) where
  abbrev most_of : ℕ
  most_of = max (unsigned_abs (high t q)) 1

  few_most : most_of ≤ 2 ^ 40
  few_most = omega (arith, few)

  pub balance_small : (p c m : ℕ) → IsSmallBy (coefficient (bought_terms t p c m
      ++ (arrived_terms t p c m
      ++ (kept_terms p c m ++ (negation (sent_terms t p c m) ++ (Keep p c m, neg_ℤ (pos 1)) ∷ (Feed p c m, neg_ℤ (pos 1)) ∷ [])))) q) (high t q)
  balance_small p c m = small_within t q _ (6 * most_of) (balance_within q most_of t p c m) (omega (arith, few_most))

  pub arc_small : (a m : ℕ) → IsSmallBy (coefficient (negation (over t.commodities λ c _. (Ship a c m, pos 1) ∷ [])) q) (high t q)
  arc_small a m =
      small_within t q _ most_of (within_negation q most_of (over t.commodities λ c _. (Ship a c m, pos 1) ∷ []) most_of (commodities_within q most_of t (λ c. Ship a c m) (λ c. refl))) (omega (arith, few_most))

  pub storage_small : (p m : ℕ) → IsSmallBy (coefficient (negation (over t.commodities λ c _. (Keep p c m, pos 1) ∷ [])) q) (high t q)
  storage_small p m =
      small_within t q _ most_of (within_negation q most_of (over t.commodities λ c _. (Keep p c m, pos 1) ∷ []) most_of (commodities_within q most_of t (λ c. Keep p c m) (λ c. refl))) (omega (arith, few_most))

  pub throughput_small : (p m : ℕ) → IsSmallBy (coefficient (negation (over t.commodities λ c _. arrived_terms t p c m)) q) (high t q)
  throughput_small p m =
      small_within t q _ most_of (within_negation q most_of (over t.commodities λ c _. arrived_terms t p c m) most_of (arrivals_within q most_of t p m)) (omega (arith, few_most))
