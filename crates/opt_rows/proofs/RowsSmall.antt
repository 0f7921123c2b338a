-- The coefficients of all rows of a model are small for the greatest values of their quantities.
use Rattle.std.proofs.Common.{◌≡◌, ℕ, ◌+◌, ◌^◌, ◌≤◌, ◌<◌, Bool, true, false, not, ◌&&◌, List, [], ◌∷◌, ◌++◌, length, get_or, map, All, Option, Some, None, ℤ, pos, neg_ℤ, unsigned_abs, ap, sym, ◌∙◌, subst, arith}
use Rattle.std.specs.List.{flat_map, enumerate_from, range_with_len}
use Rattle.std.specs.Ordering.{int_eq}
use Rattle.std.proofs.lemmas.List.{length-map, get_or-map}
use Rattle.std.proofs.lemmas.List.Elements.{All-nil, All-cons, All-append}
use Rattle.opt_sums.specs.Sums.{at}
use Rattle.opt_model.specs.Tables.{Tables}
use Rattle.opt_model.specs.Quantities.{list_if, quantities, high, is_offered, has_order}
use Rattle.opt_model.specs.declared.quantity.Quantity.TheVariants.{Buy, Order}
use Rattle.opt_model.specs.declared.quantity.RowName.TheVariants as row
use Rattle.opt_model.specs.Rows.{Terms, Row, at_least_row, coefficient, coefficients_by_number, negation, rows, nutrient_rows, group_rows, group_terms, handout_rows, balance_rows, arc_rows, storage_rows, throughput_rows, throughput_row, budget_rows, lot_rows}
use Rattle.opt_model.specs.declared.records.Goal.TheVariants.{Cost}
use Rattle.opt_model.specs.declared.records.Offer.{Offer}
use Rattle.opt_model.specs.declared.quantity.Quantity.{Quantity}
use Rattle.opt_model.proofs.Sums.{All-over}
use Rattle.opt_system.specs.Systems.{IsSmallBy, IsSmallTerm}
use Rattle.opt_tables.specs.Facts.{IsModel}
use Rattle.opt_network.specs.Numbering.{has_quantity}
use Rattle.opt_rows.proofs.Totals.{term_of}
use Rattle.opt_rows.proofs.CostSizes.{exists_at}
use Rattle.opt_rows.proofs.RowSizes.{balance_small, arc_small, storage_small, throughput_small, coefficient-negation}
use Rattle.opt_rows.proofs.RowLimits.{small_negation, goal_row_small, lot_low_small, lot_high_small}
use Rattle.opt_rows.proofs.RowRations.{group_small, handout_low_small, handout_high_small}
use Rattle.opt_rows.proofs.RowNutrients.{nutrient_small}

-- the coefficient of each existing quantity of at most 2^40 is small
abbrev pub AreSmallTerms : Tables → Terms → Type 0
AreSmallTerms t terms = (q : Quantity) → has_quantity t q ≡ true → unsigned_abs (high t q) ≤ 2 ^ 40 → IsSmallBy (coefficient terms q) (high t q)

-- so it is in a row
abbrev pub IsSmallRow : Tables → Row → Type 0
IsSmallRow t r = AreSmallTerms t r.left

-- so it is in all of some rows
record AllSmall (t : Tables) (rs : List Row) : Type 0 where
  all : All (IsSmallRow t) rs

all_flat : {X : Type 0} (t : Tables) (f : X → List Row) (xs : List X) → ((x : X) → AllSmall t (f x)) → AllSmall t (flat_map f xs)
all_flat t f [] h = record { all = All-nil (IsSmallRow t) }
all_flat t f (x ∷ xs) h = record { all = All-append (IsSmallRow t) (f x) (flat_map f xs) (h x).all (all_flat t f xs h).all }

all_if : (t : Tables) (b : Bool) (rs : List Row) → AllSmall t rs → AllSmall t (list_if b rs)
all_if t true rs h = h
all_if t false rs h = record { all = All-nil (IsSmallRow t) }

one : (t : Tables) (r : Row) → IsSmallRow t r → AllSmall t (r ∷ [])
one t r h = record { all = All-cons (IsSmallRow t) r [] h (All-nil (IsSmallRow t)) }

two : (t : Tables) (r s : Row) → IsSmallRow t r → IsSmallRow t s → AllSmall t (r ∷ s ∷ [])
two t r s h k = record { all = All-cons (IsSmallRow t) r (s ∷ []) h (one t s k).all }

module _ (t : Tables) (model : IsModel t) where
  abbrev months : List ℕ
  months = range_with_len 1 t.settings.months

  nutrients_small : AllSmall t (nutrient_rows t)
  nutrients_small = all_flat t _ (enumerate_from 0 t.needs) (λ r. all_flat t _ months (λ m. one t _ (λ q exists few. nutrient_small t model q few r.1.basket r.1.nutrient r.0 m)))

  group_high_small : (b g m : ℕ) → AreSmallTerms t (negation (group_terms t b g m))
  group_high_small b g m q exists few =
      let is : coefficient (negation (group_terms t b g m)) q ≡ neg_ℤ (coefficient (group_terms t b g m) q) = coefficient-negation q 1 (group_terms t b g m) in
      rw is (small_negation (coefficient (group_terms t b g m) q) (high t q) (group_small t model q b g m))

  groups_small : AllSmall t (group_rows t)
  groups_small =
      all_flat t _ (enumerate_from 0 t.baskets) (λ b. all_flat t _ (enumerate_from 0 t.groups) (λ g. all_flat t _ months (λ m.
      two t _ _ (λ q exists few. group_small t model q b.0 g.0 m) (group_high_small b.0 g.0 m))))

  handouts_small : AllSmall t (handout_rows t)
  handouts_small =
      all_flat t _ (enumerate_from 0 t.places) (λ p. all_flat t _ (enumerate_from 0 t.commodities) (λ c. all_flat t _ months (λ m. all_if t _ _
      (two t _ _ (λ q exists few. handout_low_small t model q exists few p.0 c.0 m) (λ q exists few. handout_high_small t model q exists few p.0 c.0 m)))))

  balances_small : AllSmall t (balance_rows t)
  balances_small =
      all_flat t _ (enumerate_from 0 t.places) (λ p. all_flat t _ (enumerate_from 0 t.commodities) (λ c. all_flat t _ months (λ m.
      one t _ (λ q exists few. balance_small t q few p.0 c.0 m))))

  arcs_small : AllSmall t (arc_rows t)
  arcs_small = all_flat t _ (enumerate_from 0 t.arcs) (λ a. all_flat t _ months (λ m. all_if t _ _ (one t _ (λ q exists few. arc_small t q few a.0 m))))

  storages_small : AllSmall t (storage_rows t)
  storages_small = all_flat t _ (enumerate_from 0 t.places) (λ p. all_flat t _ months (λ m. all_if t _ _ (one t _ (λ q exists few. storage_small t q few p.0 m))))

  limit_small : (p : ℕ) (limit : Option ℤ) (m : ℕ) → AllSmall t (throughput_row t p limit m)
  limit_small p None m = record { all = All-nil (IsSmallRow t) }
  limit_small p (Some limit) m = one t _ (λ q exists few. throughput_small t q few p m)

  throughputs_small : AllSmall t (throughput_rows t)
  throughputs_small = all_flat t _ (enumerate_from 0 t.places) (λ p. all_flat t _ months (λ m. limit_small p.0 p.1.throughput m))

  budget_small : (budget : Option ℤ) → AllSmall t (budget_rows t budget)
  budget_small None = record { all = All-nil (IsSmallRow t) }
  budget_small (Some limit) = one t _ (λ q exists few. goal_row_small t model Cost q exists)

  -- the rows of an offer's lots
  abbrev lots_in : ℕ → Offer → ℕ → List Row
  lots_in o offer m = list_if (is_offered offer m && has_order offer)
      (at_least_row (row.LotLow o m) ((Buy o m, pos 1) ∷ (Order o m, neg_ℤ offer.least) ∷ []) (pos 0)
      ++ at_least_row (row.LotHigh o m) ((Buy o m, neg_ℤ (pos 1)) ∷ (Order o m, offer.max_kg) ∷ []) (pos 0))

  abbrev lots_of : ℕ → Offer → List Row
  lots_of o offer = flat_map (lots_in o offer) months

  lots_small : AllSmall t (lot_rows t)
  lots_small =
      record {
        all = All-over lots_of (IsSmallRow t) 0 t.offers (λ i d within. (all_flat t (lots_in (0 + i) (get_or t.offers i d)) months (λ m. all_if t _ _
            (two t _ _ (λ q exists few. lot_low_small t q few (0 + i) m (get_or t.offers i d) (model.offers i d within)) (λ q exists few. lot_high_small t q few (0 + i) m (get_or t.offers i d) (model.offers i d within))))).all);
      }

  -- all rows of the model
  pub rows_small : All (IsSmallRow t) (rows t)
  rows_small =
      All-append (IsSmallRow t) (nutrient_rows t) _ nutrients_small.all
      (All-append (IsSmallRow t) (group_rows t) _ groups_small.all
      (All-append (IsSmallRow t) (handout_rows t) _ handouts_small.all
      (All-append (IsSmallRow t) (balance_rows t) _ balances_small.all
      (All-append (IsSmallRow t) (arc_rows t) _ arcs_small.all
      (All-append (IsSmallRow t) (storage_rows t) _ storages_small.all
      (All-append (IsSmallRow t) (throughput_rows t) _ throughputs_small.all
      (All-append (IsSmallRow t) (budget_rows t t.settings.budget) (lot_rows t) (budget_small t.settings.budget).all lots_small.all)))))))

-- the coefficients by number of small terms are small
pub numbered_small : (t : Tables) (terms : Terms) → AreSmallTerms t terms → ((j : ℕ) (d : Quantity) → j < length (quantities t) → unsigned_abs (high t (get_or (quantities t) j d)) ≤ 2 ^ 40)
    → All (IsSmallTerm (map (high t) (quantities t))) (coefficients_by_number (quantities t) terms)
numbered_small t terms small few =
    All-over (term_of (coefficient terms)) (IsSmallTerm (map (high t) (quantities t))) 0 (quantities t)
    (λ i d within. by i d within (int_eq (coefficient terms (get_or (quantities t) i d)) (pos 0)))
  where
    by : (i : ℕ) (d : Quantity) → i < length (quantities t) → (b : Bool) → All (IsSmallTerm (map (high t) (quantities t))) (list_if (not b) ((0 + i, coefficient terms (get_or (quantities t) i d)) ∷ []))
    by i d within true = All-nil (IsSmallTerm (map (high t) (quantities t)))
    by i d within false =
        let q : Quantity = get_or (quantities t) i d in
        let number : 0 + i ≡ i = omega arith in
        let here : at (map (high t) (quantities t)) (0 + i) ≡ high t q = ap (at (map (high t) (quantities t))) number ∙ get_or-map (high t) (quantities t) i d (pos 0) within in
        All-cons (IsSmallTerm (map (high t) (quantities t))) (0 + i, coefficient terms q) []
        (omega (arith, length-map (quantities t) (high t)), subst (IsSmallBy (coefficient terms q)) (sym here) (small q (exists_at t i d within) (few i d within)))
        (All-nil (IsSmallTerm (map (high t) (quantities t))))
