-- The coefficients of rations are small: in the rows of groups and of handing out.
use Rattle.std.proofs.Common.{◌≡◌, ◌≢◌, inl, inr, ℕ, zero, suc, ◌+◌, ◌*◌, ◌^◌, ◌≤◌, ◌<◌, max, Bool, true, false, List, [], ◌∷◌, length, ℤ, pos, ◌*ℤ◌, neg_ℤ, unsigned_abs, refl, ap, sym, ◌∙◌, arith, zero-mul}
use Rattle.std.proofs.lemmas.Int.{ints}
use Rattle.std.proofs.Math.Nat.{mul-le-mul}
use Rattle.std.proofs.lemmas.Bool.{cases_lt, lt-ltb, and_parts}
use Rattle.opt_sums.proofs.Ring.{size_mul}
use Rattle.opt_model.specs.Settings.{days_of}
use Rattle.opt_model.specs.Tables.{Tables, heads_at}
use Rattle.opt_model.specs.Quantities.{over, list_if, high, step_of, most_steps}
use Rattle.opt_model.specs.Rows.{Terms, coefficient, negation, is_in_group, group_terms, handed_terms}
use Rattle.opt_model.specs.declared.records.Commodity.{Commodity}
use Rattle.opt_model.specs.declared.quantity.Quantity.{Quantity}
use Rattle.opt_model.specs.declared.quantity.Quantity.TheVariants.{Ration, Short, Buy, Ship, Keep, Feed, Order}
use Rattle.opt_model.proofs.Sums.{over_from}
use Rattle.opt_system.specs.Systems.{IsSmallBy}
use Rattle.opt_tables.specs.Facts.{IsModel, IsCommodity, IsFrom}
use Rattle.opt_network.specs.Numbering.{has_record, has_month, has_quantity}
use Rattle.opt_network.proofs.Heads.{heads_within}
use Rattle.opt_network.proofs.Ranges.{ration_within, days_within}
use Rattle.opt_rows.proofs.Alone.{coefficient-append, one_off, record_alone}
use Rattle.opt_rows.proofs.UnitCosts.{There, there_at, of_there}
use Rattle.opt_rows.proofs.CostSizes.{at_there}
use Rattle.opt_rows.proofs.RowSizes.{Within, commodity_in, within_append, within_negation, within_one, within_if, within_tagged, small_within}

-- the basket of a ration
abbrev basket_in : Quantity → ℕ
basket_in (Ration b c m) = b
basket_in (Short d m) = 0
basket_in (Buy o m) = 0
basket_in (Ship a c m) = 0
basket_in (Keep p c m) = 0
basket_in (Feed p c m) = 0
basket_in (Order o m) = 0

module _ (q : Quantity) (most : ℕ) where
  -- where part i is past the last, no part names the quantity
  none_before : {A : Type 0} (g : ℕ → A → Terms) (i k : ℕ) (xs : List A) → k + length xs ≤ i → ((j : ℕ) (y : A) → j ≢ i → coefficient (g j y) q ≡ pos 0) → coefficient (over_from g k xs) q ≡ pos 0
  none_before g i k [] past others = refl
  none_before g i k (x ∷ xs) past others =
      omega (arith, ints, coefficient-append (g k x) (over_from g (k + 1) xs) q, others k x (omega arith), none_before g i (k + 1) xs (omega arith) others)

  -- part i alone can name it, and is that of the record that is there
  within_there : {A : Type 0} (g : ℕ → A → Terms) (i s : ℕ) (xs : List A) → ((y : A) → There xs i y → Within q most (g i y) s) → ((j : ℕ) (y : A) → j ≢ i → coefficient (g j y) q ≡ pos 0)
      → Within q most (over xs g) s
  within_there {A} g i s xs part others =
      elim (cases_lt i (length xs)) [
        | inl h ↦
            let inside : i < length xs = h in
            let there : (x : A) × There xs i x = there_at xs i (lt-ltb i (length xs) inside) in
            let is : coefficient (over xs g) q ≡ coefficient (g i there.0) q = record_alone g q xs i there.0 there.1.within there.1.is others in
            record { size = rw is (part there.0 there.1).size }
        | inr h ↦
            let past : length xs ≤ i = h in
            let is : coefficient (over xs g) q ≡ pos 0 = none_before g i 0 xs (omega arith) others in
            record { size = rw is (omega (arith, zero-mul most)) }
      ]

-- a step times the most steps, or 1, is at most the most grams
step_most : (step steps : ℤ) → IsFrom (pos 1) (pos 2000) step → IsFrom (pos 0) (pos 2000) (step *ℤ steps) → unsigned_abs step * max (unsigned_abs steps) 1 ≤ 2000
step_most step steps one both =
    by (unsigned_abs steps) refl
  where
    product : unsigned_abs step * unsigned_abs steps ≤ 2000
    product = omega (arith, ints, size_mul step steps, both.above, both.below)

    alone : unsigned_abs step ≤ 2000
    alone = omega (arith, ints, one.above, one.below)

    by : (n : ℕ) → unsigned_abs steps ≡ n → unsigned_abs step * max (unsigned_abs steps) 1 ≤ 2000
    by zero e = let m : max (unsigned_abs steps) 1 ≡ 1 = omega (arith, e) in rw m (omega (arith, alone))
    by (suc n) e = let m : max (unsigned_abs steps) 1 ≡ unsigned_abs steps = omega (arith, e) in rw m product

module _ (t : Tables) (model : IsModel t) (q : Quantity) where
  abbrev most_of : ℕ
  most_of = max (unsigned_abs (high t q)) 1

  -- a ration of a commodity that is there
  pub ration_most : (b c m : ℕ) (r : Commodity) → There t.commodities c r → Ration b c m ≡ q → unsigned_abs r.step_g * most_of ≤ 2000
  ration_most b c m r there e =
      let fact : IsCommodity r = at_there IsCommodity t.commodities c r there model.commodities in
      let is : most_of ≡ max (unsigned_abs (most_steps r)) 1 = ap (λ (p : Quantity). max (unsigned_abs (high t p)) 1) (sym e) ∙ ap (λ z. max (unsigned_abs z) 1) (of_there t.commodities c r most_steps there) in
      rw is (step_most r.step_g (most_steps r) fact.step_g (ration_within r fact))

  pub group_small : (b g m : ℕ) → IsSmallBy (coefficient (group_terms t b g m) q) (high t q)
  group_small b g m =
      small_within t q (group_terms t b g m) 2000
      (within_there q most_of (λ c r. list_if (is_in_group r.group g) ((Ration b c m, r.step_g) ∷ [])) (commodity_in q) 2000 t.commodities
      (λ r there. within_if q most_of (is_in_group r.group g) ((Ration b (commodity_in q) m, r.step_g) ∷ []) 2000
      (within_one q most_of (Ration b (commodity_in q) m) r.step_g 2000 (λ e. ration_most b (commodity_in q) m r there e)))
      (λ c r apart. none_in (is_in_group r.group g) ((Ration b c m, r.step_g) ∷ []) (one_off (Ration b c m) q r.step_g (λ e. apart (ap commodity_in e)))))
      (omega arith)
    where
      none_in : (test : Bool) (terms : Terms) → coefficient terms q ≡ pos 0 → coefficient (list_if test terms) q ≡ pos 0
      none_in true terms e = e
      none_in false terms e = refl

  -- what is handed out of a commodity to the persons of a basket, for a step
  handed_most : has_quantity t q ≡ true → (p b c m : ℕ) → Ration b c m ≡ q → unsigned_abs ((heads_at t p b m *ℤ pos (days_of t.settings m)) *ℤ step_of t c) * most_of ≤ 10 ^ 7 * 31 * 2000
  handed_most exists p b c m e =
      let here : has_quantity t (Ration b c m) ≡ true = ap (has_quantity t) e ∙ exists in
      let parts = and_parts (has_record t.baskets b) _ here in
      let rest = and_parts (has_record t.commodities c) (has_month t m) parts.1 in
      let there = there_at t.commodities c rest.0 in
      let step_is : step_of t c ≡ there.0.step_g = of_there t.commodities c there.0 (λ r. r.step_g) there.1 in
      let heads : IsFrom (pos 0) (pos (10 ^ 7)) (heads_at t p b m) = heads_within t model p b m in
      let days : IsFrom (pos 0) (pos 31) (pos (days_of t.settings m)) = days_within t.settings model.settings m in
      let first : unsigned_abs (heads_at t p b m) ≤ 10 ^ 7 = omega (arith, ints, heads.above, heads.below) in
      let second : unsigned_abs (pos (days_of t.settings m)) ≤ 31 = omega (arith, ints, days.above, days.below) in
      let third : unsigned_abs there.0.step_g * most_of ≤ 2000 = ration_most b c m there.0 there.1 e in
      three (heads_at t p b m) (pos (days_of t.settings m)) (step_of t c) (unsigned_abs there.0.step_g) (ap unsigned_abs step_is) first second third
    where
      three : (x y z : ℤ) (n : ℕ) → unsigned_abs z ≡ n → unsigned_abs x ≤ 10 ^ 7 → unsigned_abs y ≤ 31 → n * most_of ≤ 2000 → unsigned_abs ((x *ℤ y) *ℤ z) * most_of ≤ 10 ^ 7 * 31 * 2000
      three x y z n e f g h =
          let sizes : unsigned_abs ((x *ℤ y) *ℤ z) ≡ (unsigned_abs x * unsigned_abs y) * n = size_mul (x *ℤ y) z ∙ (ap (λ k. k * unsigned_abs z) (size_mul x y) ∙ ap (λ k. (unsigned_abs x * unsigned_abs y) * k) e) in
          let turned : ((unsigned_abs x * unsigned_abs y) * n) * most_of ≡ (unsigned_abs x * unsigned_abs y) * (n * most_of) = grind arith in
          rw (sizes, turned) (mul-le-mul (mul-le-mul f g) h)

  handed_within : has_quantity t q ≡ true → (p c m : ℕ) → Within q most_of (handed_terms t p c m) (10 ^ 7 * 31 * 2000)
  handed_within exists p c m =
      within_tagged q most_of (λ b _. (Ration b c m, (heads_at t p b m *ℤ pos (days_of t.settings m)) *ℤ step_of t c) ∷ []) (basket_in q) (10 ^ 7 * 31 * 2000) t.baskets
      (λ b _. within_one q most_of (Ration b c m) ((heads_at t p b m *ℤ pos (days_of t.settings m)) *ℤ step_of t c) (10 ^ 7 * 31 * 2000) (λ e. handed_most exists p b c m e))
      (λ b _ apart. one_off (Ration b c m) q ((heads_at t p b m *ℤ pos (days_of t.settings m)) *ℤ step_of t c) (λ e. apart (ap basket_in e)))

  fed_within : unsigned_abs (high t q) ≤ 2 ^ 40 → (p c m : ℕ) (z : ℤ) → unsigned_abs z ≤ 1000 → Within q most_of ((Feed p c m, z) ∷ []) (1000 * 2 ^ 40)
  fed_within few p c m z small =
      let most : most_of ≤ 2 ^ 40 = omega (arith, few) in
      within_one q most_of (Feed p c m) z (1000 * 2 ^ 40) (λ e. mul-le-mul small most)

  pub handout_low_small : has_quantity t q ≡ true → unsigned_abs (high t q) ≤ 2 ^ 40 → (p c m : ℕ) → IsSmallBy (coefficient ((Feed p c m, pos 1000) ∷ negation (handed_terms t p c m)) q) (high t q)
  handout_low_small exists few p c m =
      small_within t q ((Feed p c m, pos 1000) ∷ negation (handed_terms t p c m)) (1000 * 2 ^ 40 + 10 ^ 7 * 31 * 2000)
      (within_append q most_of ((Feed p c m, pos 1000) ∷ []) (negation (handed_terms t p c m)) (1000 * 2 ^ 40) (10 ^ 7 * 31 * 2000)
      (fed_within few p c m (pos 1000) (omega arith)) (within_negation q most_of (handed_terms t p c m) (10 ^ 7 * 31 * 2000) (handed_within exists p c m)))
      (omega arith)

  pub handout_high_small : has_quantity t q ≡ true → unsigned_abs (high t q) ≤ 2 ^ 40 → (p c m : ℕ) → IsSmallBy (coefficient ((Feed p c m, neg_ℤ (pos 1000)) ∷ handed_terms t p c m) q) (high t q)
  handout_high_small exists few p c m =
      small_within t q ((Feed p c m, neg_ℤ (pos 1000)) ∷ handed_terms t p c m) (1000 * 2 ^ 40 + 10 ^ 7 * 31 * 2000)
      (within_append q most_of ((Feed p c m, neg_ℤ (pos 1000)) ∷ []) (handed_terms t p c m) (1000 * 2 ^ 40) (10 ^ 7 * 31 * 2000)
      (fed_within few p c m (neg_ℤ (pos 1000)) (omega arith)) (handed_within exists p c m))
      (omega arith)
