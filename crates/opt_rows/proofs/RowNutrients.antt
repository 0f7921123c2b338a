-- The coefficients of rows of nutrients are small.
use Rattle.std.proofs.Common.{◌≡◌, ◌≢◌, ℕ, ◌+◌, ◌*◌, ◌^◌, ◌≤◌, max, Bool, true, false, ◌&&◌, ◌==◌, List, [], ◌∷◌, ◌++◌, length, All, count_by, ℤ, pos, ◌*ℤ◌, unsigned_abs, refl, ap, ◌∙◌, arith, zero-mul}
use Rattle.std.specs.Prelude.{cond}
use Rattle.std.proofs.lemmas.Int.{ints}
use Rattle.std.proofs.lemmas.Bool.{lt-ltb, eq-eqb, both_ways}
use Rattle.std.proofs.lemmas.List.Elements.{All-head, All-tail}
use Rattle.std.proofs.lemmas.List.Sums.{sum_by-cons}
use Rattle.std.proofs.Math.Nat.{mul-le-mul}
use Rattle.opt_sums.proofs.Ring.{size_mul}
use Rattle.opt_model.specs.Tables.{Tables}
use Rattle.opt_model.specs.Quantities.{list_if, high, step_of}
use Rattle.opt_model.specs.Rows.{Terms, coefficient, nutrient_terms}
use Rattle.opt_model.specs.declared.records.Content.{Content}
use Rattle.opt_model.specs.declared.quantity.Quantity.{Quantity}
use Rattle.opt_model.specs.declared.quantity.Quantity.TheVariants.{Ration, Short}
use Rattle.opt_model.proofs.Sums.{over_from}
use Rattle.opt_system.specs.Systems.{IsSmallBy}
use Rattle.opt_tables.specs.Facts.{IsModel, IsContent}
use Rattle.opt_rows.proofs.Alone.{coefficient-append, one_off}
use Rattle.opt_rows.proofs.UnitCosts.{there_at, of_there}
use Rattle.opt_rows.proofs.RowSizes.{Within, commodity_in, within_append, within_one, within_if, within_weaker, small_within}
use Rattle.opt_rows.proofs.RowRations.{ration_most}

module _ (q : Quantity) (most : ℕ) {A : Type 0} (P : A → Type 0) (g : ℕ → A → Terms) (test : A → Bool) (s : ℕ) where
  one_more : (k : ℕ) (x : A) (xs : List A) → Within q most (over_from g (k + 1) xs) (count_by test xs * s) → Within q most (g k x) s → (test x ≡ false → coefficient (g k x) q ≡ pos 0)
      → (b : Bool) → test x ≡ b → Within q most (over_from g k (x ∷ xs)) (count_by test (x ∷ xs) * s)
  one_more k x xs rest here none true e =
      let count : count_by test (x ∷ xs) ≡ 1 + count_by test xs = sum_by-cons (λ y. cond (test y) 1 0) x xs ∙ ap (λ b. cond b 1 0 + count_by test xs) e in
      let sum : (1 + count_by test xs) * s ≡ s + count_by test xs * s = grind arith in
      rw (count, sum) (within_append q most (g k x) (over_from g (k + 1) xs) s (count_by test xs * s) here rest)
  one_more k x xs rest here none false e =
      let count : count_by test (x ∷ xs) ≡ count_by test xs = sum_by-cons (λ y. cond (test y) 1 0) x xs ∙ (ap (λ b. cond b 1 0 + count_by test xs) e ∙ omega arith) in
      let is : coefficient (over_from g k (x ∷ xs)) q ≡ coefficient (over_from g (k + 1) xs) q = omega (arith, ints, coefficient-append (g k x) (over_from g (k + 1) xs) q, none e) in
      rw count (record { size = rw is rest.size })

  -- parts that can name the quantity only where a test holds
  within_counted : (k : ℕ) (xs : List A) → All P xs → ((j : ℕ) (y : A) → P y → Within q most (g j y) s) → ((j : ℕ) (y : A) → test y ≡ false → coefficient (g j y) q ≡ pos 0)
      → Within q most (over_from g k xs) (count_by test xs * s)
  within_counted k [] all parts others = record { size = omega (arith, zero-mul most, zero-mul s) }
  within_counted k (x ∷ xs) all parts others =
      one_more k x xs (within_counted (k + 1) xs (All-tail P x xs all) parts others) (parts k x (All-head P x xs all)) (others k x) (test x) refl

module _ (t : Tables) (model : IsModel t) (q : Quantity) where
  abbrev most_of : ℕ
  most_of = max (unsigned_abs (high t q)) 1

  abbrev part : ℕ → ℕ → ℕ → Content → Terms
  part b n m r = list_if (r.nutrient == n) ((Ration b r.commodity m, r.per_100g *ℤ step_of t r.commodity) ∷ [])

  abbrev named : ℕ → Content → Bool
  named n r = (r.commodity == commodity_in q) && (r.nutrient == n)

  content_most : (b m : ℕ) (r : Content) → IsContent t r → Ration b r.commodity m ≡ q → unsigned_abs (r.per_100g *ℤ step_of t r.commodity) * most_of ≤ 10 ^ 6 * 2000
  content_most b m r fact e =
      let there = there_at t.commodities r.commodity (lt-ltb r.commodity (length t.commodities) fact.commodity) in
      let step_is : step_of t r.commodity ≡ there.0.step_g = of_there t.commodities r.commodity there.0 (λ y. y.step_g) there.1 in
      let first : unsigned_abs r.per_100g ≤ 10 ^ 6 = omega (arith, ints, fact.per_100g.above, fact.per_100g.below) in
      let second : unsigned_abs there.0.step_g * most_of ≤ 2000 = ration_most t model q b r.commodity m there.0 there.1 e in
      two r.per_100g (step_of t r.commodity) (unsigned_abs there.0.step_g) (ap unsigned_abs step_is) first second
    where
      two : (x z : ℤ) (n : ℕ) → unsigned_abs z ≡ n → unsigned_abs x ≤ 10 ^ 6 → n * most_of ≤ 2000 → unsigned_abs (x *ℤ z) * most_of ≤ 10 ^ 6 * 2000
      two x z n e f h =
          let sizes : unsigned_abs (x *ℤ z) ≡ unsigned_abs x * n = size_mul x z ∙ ap (λ k. unsigned_abs x * k) e in
          let turned : (unsigned_abs x * n) * most_of ≡ unsigned_abs x * (n * most_of) = grind arith in
          rw (sizes, turned) (mul-le-mul f h)

  none_named : (b n m : ℕ) (r : Content) → named n r ≡ false → coefficient (part b n m r) q ≡ pos 0
  none_named b n m r e = by (r.nutrient == n) refl
    where
      by : (test : Bool) → (r.nutrient == n) ≡ test → coefficient (part b n m r) q ≡ pos 0
      by false f = rw f refl
      by true f =
          let apart : Ration b r.commodity m ≢ q = λ same.
          let here : r.commodity ≡ commodity_in q = ap commodity_in same in
          both_ways (named n r) e (rw (eq-eqb r.commodity (commodity_in q) here, f) refl)
          in
          rw f (one_off (Ration b r.commodity m) q (r.per_100g *ℤ step_of t r.commodity) apart)

  content_within : (b n m : ℕ) → Within q most_of (nutrient_terms t b n m) (10 ^ 6 * 2000)
  content_within b n m =
      within_weaker q most_of (nutrient_terms t b n m) (count_by (named n) t.contents * (10 ^ 6 * 2000)) (10 ^ 6 * 2000) (once (count_by (named n) t.contents) (model.keys.content (commodity_in q) n))
      (within_counted q most_of (IsContent t) (λ _ r. part b n m r) (named n) (10 ^ 6 * 2000) 0 t.contents model.contents
      (λ j r fact. within_if q most_of (r.nutrient == n) ((Ration b r.commodity m, r.per_100g *ℤ step_of t r.commodity) ∷ []) (10 ^ 6 * 2000)
      (within_one q most_of (Ration b r.commodity m) (r.per_100g *ℤ step_of t r.commodity) (10 ^ 6 * 2000) (content_most b m r fact)))
      (λ j r e. none_named b n m r e))
    where
      once : (n : ℕ) → n ≤ 1 → n * (10 ^ 6 * 2000) ≤ 10 ^ 6 * 2000
      once n h = omega (arith, h)

  pub nutrient_small : unsigned_abs (high t q) ≤ 2 ^ 40 → (b n d m : ℕ) → IsSmallBy (coefficient (nutrient_terms t b n m ++ (Short d m, pos 100) ∷ []) q) (high t q)
  nutrient_small few b n d m =
      let most : most_of ≤ 2 ^ 40 = omega (arith, few) in
      small_within t q (nutrient_terms t b n m ++ (Short d m, pos 100) ∷ []) (10 ^ 6 * 2000 + 100 * 2 ^ 40)
      (within_append q most_of (nutrient_terms t b n m) ((Short d m, pos 100) ∷ []) (10 ^ 6 * 2000) (100 * 2 ^ 40) (content_within b n m)
      (within_one q most_of (Short d m) (pos 100) (100 * 2 ^ 40) (λ e. omega (arith, most))))
      (omega arith)
