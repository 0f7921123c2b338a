-- The right-hand sides of a model's rows are small together.
use Rattle.std.proofs.Common.{◌≡◌, ℕ, ◌+◌, ◌*◌, ◌^◌, ◌≤◌, ◌==◌, ◌&&◌, Bool, true, false, List, [], ◌∷◌, ◌++◌, length, get_or, map, sum_by, All, Option, Some, None, ℤ, pos, ◌*ℤ◌, neg_ℤ, unsigned_abs, refl, ap, sym, subst, arith, length-append}
use Rattle.std.specs.Prelude.{IfSome}
use Rattle.std.specs.List.{flat_map, enumerate_from, range_with_len}
use Rattle.std.proofs.lemmas.Int.{ints}
use Rattle.std.proofs.lemmas.List.{length-map}
use Rattle.std.proofs.lemmas.List.Elements.{All-nil, All-cons, All-append, All-head, All-tail, All-map}
use Rattle.std.proofs.lemmas.List.Sums.{sum_by-append, sum_by-cons}
use Rattle.opt_base.specs.declared.limits.TheConstants.{ROW_LIMIT}
use Rattle.opt_model.specs.Tables.{Tables, stock_at}
use Rattle.opt_model.specs.Quantities.{list_if, quantities, high}
use Rattle.opt_model.specs.Rows.{Row, rows, negation, lack_terms, nutrient_rows, group_rows, handout_rows, balance_rows, arc_rows, storage_rows, throughput_rows, throughput_row, budget_rows, lot_rows}
use Rattle.opt_model.specs.declared.records.Goal.TheVariants.{Shortfall}
use Rattle.opt_model.specs.declared.records.Stock.{Stock}
use Rattle.opt_model.specs.declared.quantity.Quantity.{Quantity}
use Rattle.opt_model.proofs.Sums.{All-over}
use Rattle.opt_read.specs.Setup.{IsAmount}
use Rattle.opt_system.specs.Systems.{IsSmallTerm}
use Rattle.opt_tables.specs.Facts.{IsFrom, IsKilograms, IsModel}
use Rattle.opt_network.specs.Numbering.{Numbering, IsLayoutOf}
use Rattle.opt_network.proofs.Heads.{found_within}
use Rattle.opt_rows.specs.Systems.{SystemRow, row_over, cap_rows, system_rows, AreSmallRows}
use Rattle.opt_rows.proofs.RowLimits.{goal_row_small}
use Rattle.opt_rows.proofs.RowsSmall.{rows_small, numbered_small}
use Rattle.opt_rows.proofs.ShortSums.{high_few}

-- the right side of a row that has nothing to do with money
abbrev HasLowRight : Row → Type 0
HasLowRight r = unsigned_abs r.right ≤ 10 ^ 12

record AllLow (rs : List Row) : Type 0 where
  all : All HasLowRight rs

low_flat : {X : Type 0} (f : X → List Row) (xs : List X) → ((x : X) → AllLow (f x)) → AllLow (flat_map f xs)
low_flat f [] h = record { all = All-nil HasLowRight }
low_flat f (x ∷ xs) h = record { all = All-append HasLowRight (f x) (flat_map f xs) (h x).all (low_flat f xs h).all }

low_if : (b : Bool) (rs : List Row) → AllLow rs → AllLow (list_if b rs)
low_if true rs h = h
low_if false rs h = record { all = All-nil HasLowRight }

low_one : (r : Row) → HasLowRight r → AllLow (r ∷ [])
low_one r h = record { all = All-cons HasLowRight r [] h (All-nil HasLowRight) }

low_two : (r s : Row) → HasLowRight r → HasLowRight s → AllLow (r ∷ s ∷ [])
low_two r s h k = record { all = All-cons HasLowRight r (s ∷ []) h (low_one s k).all }

-- sizes of numbers in their ranges
size_within : (z : ℤ) (most : ℕ) → IsFrom (pos 0) (pos most) z → unsigned_abs z ≤ most
size_within z most h = omega (arith, ints, h.above, h.below)

size_under : (z : ℤ) (most : ℕ) → IsFrom (pos 0) (pos most) z → unsigned_abs (neg_ℤ z) ≤ most
size_under z most h = omega (arith, ints, h.above, h.below)

size_hundred : (z : ℤ) → IsFrom (pos 0) (pos (10 ^ 9)) z → unsigned_abs (pos 100 *ℤ z) ≤ 10 ^ 12
size_hundred z h = omega (arith, ints, h.above, h.below)

kilograms_low : (z : ℤ) → IsKilograms z → unsigned_abs (neg_ℤ z) ≤ 10 ^ 12
kilograms_low z h = omega (arith, ints, h.above, h.below)

grams_low : (z : ℤ) → IsFrom (pos 0) (pos (10 ^ 6)) z → unsigned_abs z ≤ 10 ^ 12
grams_low z h = omega (arith, ints, h.above, h.below)

grams_under : (z : ℤ) → IsFrom (pos 0) (pos (10 ^ 6)) z → unsigned_abs (neg_ℤ z) ≤ 10 ^ 12
grams_under z h = omega (arith, ints, h.above, h.below)

amount_under : (z : ℤ) → IsAmount z → unsigned_abs (neg_ℤ z) ≤ 9 * 10 ^ 18
amount_under z h = omega (arith, ints, h.0, h.1)

-- the sizes of the right sides together
abbrev rights : List Row → ℕ
rights rs = sum_by (λ r. unsigned_abs r.right) rs

-- they are at most so much for each row, and so much more
record Bounded (rs : List Row) (more : ℕ) : Type 0 where
  within : rights rs ≤ length rs * 10 ^ 12 + more

low_bounded : (rs : List Row) → All HasLowRight rs → Bounded rs 0
low_bounded [] h = record { within = omega arith }
low_bounded (r ∷ rs) h =
    record { within = omega (arith, sum_by-cons (λ r. unsigned_abs r.right) r rs, All-head HasLowRight r rs h, (low_bounded rs (All-tail HasLowRight r rs h)).within) }

both_bounded : (xs ys : List Row) (m n : ℕ) → Bounded xs m → Bounded ys n → Bounded (xs ++ ys) (m + n)
both_bounded xs ys m n h k =
    record { within = omega (arith, sum_by-append (λ (r : Row). unsigned_abs r.right) xs ys, length-append xs ys, h.within, k.within) }

module _ (t : Tables) (model : IsModel t) where
  abbrev months : List ℕ
  months = range_with_len 1 t.settings.months

  stock_low : (p c m : ℕ) → unsigned_abs (neg_ℤ (stock_at t p c m)) ≤ 10 ^ 12
  stock_low p c m =
      kilograms_low (stock_at t p c m)
      (found_within (λ (r : Stock). r.kg) (10 ^ 9) (λ (r : Stock). (r.place == p) && (r.commodity == c) && (r.month == m)) t.stock (λ k d within. (model.stock k d within).kg))

  nutrients_low : All HasLowRight (nutrient_rows t)
  nutrients_low = All-over _ HasLowRight 0 t.needs (λ i d within.
      (low_flat _ months (λ m. low_one _ (size_hundred (get_or t.needs i d).required (model.needs i d within).required))).all)

  groups_low : AllLow (group_rows t)
  groups_low = low_flat _ (enumerate_from 0 t.baskets) (λ b. record {
    all = All-over _ HasLowRight 0 t.groups (λ i d within.
        (low_flat _ months (λ m. low_two _ _ (grams_low (get_or t.groups i d).min_g (model.groups i d within).min_g) (grams_under (get_or t.groups i d).max_g (model.groups i d within).max_g))).all);
  })

  handouts_low : AllLow (handout_rows t)
  handouts_low =
      low_flat _ (enumerate_from 0 t.places) (λ p. low_flat _ (enumerate_from 0 t.commodities) (λ c. low_flat _ months (λ m. low_if _ _ (low_two _ _ (omega arith) (omega arith)))))

  balances_low : AllLow (balance_rows t)
  balances_low =
      low_flat _ (enumerate_from 0 t.places) (λ p. low_flat _ (enumerate_from 0 t.commodities) (λ c. low_flat _ months (λ m. low_one _ (stock_low p.0 c.0 m))))

  arcs_low : All HasLowRight (arc_rows t)
  arcs_low = All-over _ HasLowRight 0 t.arcs (λ i d within.
      (low_flat _ months (λ m. low_if _ _ (low_one _ (kilograms_low (get_or t.arcs i d).capacity (model.arcs i d within).capacity)))).all)

  storages_low : All HasLowRight (storage_rows t)
  storages_low = All-over _ HasLowRight 0 t.places (λ i d within.
      (low_flat _ months (λ m. low_if _ _ (low_one _ (kilograms_low (get_or t.places i d).storage (model.places i d within).storage)))).all)

  limit_low : (p : ℕ) (limit : Option ℤ) (m : ℕ) → IfSome limit IsKilograms → AllLow (throughput_row t p limit m)
  limit_low p None m h = record { all = All-nil HasLowRight }
  limit_low p (Some limit) m h = low_one _ (kilograms_low limit h)

  throughputs_low : All HasLowRight (throughput_rows t)
  throughputs_low = All-over _ HasLowRight 0 t.places (λ i d within.
      (low_flat _ months (λ m. limit_low (0 + i) (get_or t.places i d).throughput m (model.places i d within).throughput)).all)

  lots_low : AllLow (lot_rows t)
  lots_low = low_flat _ (enumerate_from 0 t.offers) (λ o. low_flat _ months (λ m. low_if _ _ (low_two _ _ (omega arith) (omega arith))))

  budget_bounded : (budget : Option ℤ) → IfSome budget IsAmount → Bounded (budget_rows t budget) (9 * 10 ^ 18)
  budget_bounded None h = record { within = omega arith }
  budget_bounded (Some limit) h =
      record { within = omega (arith, amount_under limit h) }

  -- those of all rows of the model
  rows_bounded : Bounded (rows t) (9 * 10 ^ 18)
  rows_bounded =
      both_bounded (nutrient_rows t) _ 0 (9 * 10 ^ 18) (low_bounded (nutrient_rows t) nutrients_low)
      (both_bounded (group_rows t) _ 0 (9 * 10 ^ 18) (low_bounded (group_rows t) groups_low.all)
      (both_bounded (handout_rows t) _ 0 (9 * 10 ^ 18) (low_bounded (handout_rows t) handouts_low.all)
      (both_bounded (balance_rows t) _ 0 (9 * 10 ^ 18) (low_bounded (balance_rows t) balances_low.all)
      (both_bounded (arc_rows t) _ 0 (9 * 10 ^ 18) (low_bounded (arc_rows t) arcs_low)
      (both_bounded (storage_rows t) _ 0 (9 * 10 ^ 18) (low_bounded (storage_rows t) storages_low)
      (both_bounded (throughput_rows t) _ 0 (9 * 10 ^ 18) (low_bounded (throughput_rows t) throughputs_low)
      (both_bounded (budget_rows t t.settings.budget) (lot_rows t) (9 * 10 ^ 18) 0 (budget_bounded t.settings.budget model.settings.budget) (low_bounded (lot_rows t) lots_low.all))))))))

  sum_of_map : (qs : List Quantity) (rs : List Row) → sum_by (λ (r : SystemRow). unsigned_abs r.right_hand_side) (map (row_over qs) rs) ≡ rights rs
  sum_of_map qs [] = refl
  sum_of_map qs (r ∷ rs) =
      omega (
        arith,
        sum_by-cons (λ (r : SystemRow). unsigned_abs r.right_hand_side) (row_over qs r) (map (row_over qs) rs),
        sum_by-cons (λ (r : Row). unsigned_abs r.right) r rs,
        sum_of_map qs rs,
      )

  cap_bounded : (cap : Option ℤ) → IfSome cap IsAmount → sum_by (λ (r : SystemRow). unsigned_abs r.right_hand_side) (cap_rows t cap) ≤ 9 * 10 ^ 18
  cap_bounded None h = omega arith
  cap_bounded (Some cap) h = omega (arith, amount_under cap h)

  rights_small : (cap : Option ℤ) → IfSome cap IsAmount → length (system_rows t cap) ≤ ROW_LIMIT → sum_by (λ (r : SystemRow). unsigned_abs r.right_hand_side) (system_rows t cap) ≤ 2 ^ 64
  rights_small cap h few =
      omega (
        arith,
        few,
        sum_by-append (λ (r : SystemRow). unsigned_abs r.right_hand_side) (map (row_over (quantities t)) (rows t)) (cap_rows t cap),
        length-append (map (row_over (quantities t)) (rows t)) (cap_rows t cap),
        length-map (rows t) (row_over (quantities t)),
        sum_of_map (quantities t) (rows t),
        rows_bounded.within,
        cap_bounded cap h,
      )

  -- ---- terms
  abbrev HasSmallTerms : SystemRow → Type 0
  HasSmallTerms row = All (IsSmallTerm (map (high t) (quantities t))) row.terms

  rows_terms : All HasSmallTerms (map (row_over (quantities t)) (rows t))
  rows_terms = All-map HasSmallTerms (row_over (quantities t)) (rows t)
      (λ k d within. numbered_small t (get_or (rows t) k d).left (rows_small t model k d within) (λ j e inside. high_few t model (get_or (quantities t) j e)))

  cap_terms : (cap : Option ℤ) → All HasSmallTerms (cap_rows t cap)
  cap_terms None = All-nil HasSmallTerms
  cap_terms (Some cap) =
      All-cons HasSmallTerms _ [] (numbered_small t (negation (lack_terms t)) (λ q exists small. goal_row_small t model Shortfall q exists) (λ j e inside. high_few t model (get_or (quantities t) j e))) (All-nil HasSmallTerms)

  -- the rows of a system are small for the ranges of its layout
  pub system_small : (layout : Numbering) → IsLayoutOf t layout → (cap : Option ℤ) → IfSome cap IsAmount → length (system_rows t cap) ≤ ROW_LIMIT → AreSmallRows layout.highs (system_rows t cap)
  system_small layout is cap amount few =
      let highs : layout.highs ≡ map (high t) (quantities t) = ap (λ (l : Numbering). l.highs) is.same in
      let terms = All-append HasSmallTerms (map (row_over (quantities t)) (rows t)) (cap_rows t cap) rows_terms (cap_terms cap) in
      record {
        terms = subst (λ (h : List ℤ). All (λ (row : SystemRow). All (IsSmallTerm h) row.terms) (system_rows t cap)) (sym highs) terms;
        rights = rights_small cap amount few;
      }
