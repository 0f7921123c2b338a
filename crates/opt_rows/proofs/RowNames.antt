-- The names of a model's rows, list by list.
use Rattle.std.proofs.Common.{◌≡◌, ℕ, Bool, true, false, List, [], ◌∷◌, ◌++◌, length, map, Option, Some, None, ℤ, pos, neg_ℤ, ◌*ℤ◌, refl, ap, sym, ◌∙◌, subst}
use Rattle.std.specs.Prelude.{slice_get, option_map, Err}
use Rattle.std.specs.List.{flat_map, enumerate_from, range_with_len}
use Rattle.std.proofs.lemmas.List.{length-map}
use Rattle.std.proofs.lemmas.Option.{slice_get-map}
use Rattle.opt_model.specs.Tables.{Tables, stock_at}
use Rattle.opt_model.specs.Quantities.{list_if}
use Rattle.opt_model.specs.declared.quantity.Quantity.TheVariants.{Short, Keep, Feed}
use Rattle.opt_model.specs.declared.quantity.RowName.TheVariants as row
use Rattle.opt_model.specs.Rows.{Row, at_least_row, at_most_row, equal_row, nutrient_terms, group_terms, bought_terms, arrived_terms, kept_terms, sent_terms, negation, rows, nutrient_rows, group_rows, handout_rows, balance_rows, arc_rows, storage_rows, throughput_rows, throughput_row, budget_rows, lot_rows}
use Rattle.opt_model.specs.declared.quantity.RowName.{RowName}
use Rattle.opt_rows.specs.Names.{Finds, nutrient_names, group_names, handout_names, balance_names, arc_names, storage_names, throughput_names, throughput_names_in, budget_names, lot_names, row_names}

-- the names of some rows
abbrev pub names_of : List Row → List RowName
names_of rs = map (λ r. r.name) rs

names_append : (xs ys : List Row) (ns ms : List RowName) → names_of xs ≡ ns → names_of ys ≡ ms → names_of (xs ++ ys) ≡ ns ++ ms
names_append [] ys ns ms e f = ap (λ (ks : List RowName). ks ++ names_of ys) e ∙ ap (λ (ks : List RowName). ns ++ ks) f
names_append (x ∷ xs) ys ns ms e f =
    ap (λ (ks : List RowName). x.name ∷ ks) (names_append xs ys (names_of xs) ms refl f) ∙ ap (λ (ks : List RowName). ks ++ ms) e

names_flat : {X : Type 0} (f : X → List Row) (h : X → List RowName) (xs : List X) → ((x : X) → names_of (f x) ≡ h x) → names_of (flat_map f xs) ≡ flat_map h xs
names_flat f h [] same = refl
names_flat f h (x ∷ xs) same = names_append (f x) (flat_map f xs) (h x) (flat_map h xs) (same x) (names_flat f h xs same)

names_if : (b : Bool) (xs : List Row) (ns : List RowName) → names_of xs ≡ ns → names_of (list_if b xs) ≡ list_if b ns
names_if true xs ns e = e
names_if false xs ns e = refl

module _ (t : Tables) where
  -- the balance of a commodity at a place in a month
  abbrev balance_row_at : ℕ → ℕ → ℕ → List Row
  balance_row_at p c m =
      equal_row (row.Balance p c m)
      (bought_terms t p c m
      ++ (arrived_terms t p c m
      ++ (kept_terms p c m ++ (negation (sent_terms t p c m) ++ (Keep p c m, neg_ℤ (pos 1)) ∷ (Feed p c m, neg_ℤ (pos 1)) ∷ []))))
      (neg_ℤ (stock_at t p c m))

  abbrev months : List ℕ
  months = range_with_len 1 t.settings.months

  nutrients_named : names_of (nutrient_rows t) ≡ nutrient_names t
  nutrients_named =
      names_flat _ _ (enumerate_from 0 t.needs) (λ r.
      names_flat (λ m. at_least_row (row.Nutrient r.1.basket r.1.nutrient m) (nutrient_terms t r.1.basket r.1.nutrient m ++ (Short r.0 m, pos 100) ∷ []) (pos 100 *ℤ r.1.required))
      _ months (λ m. refl))

  groups_named : names_of (group_rows t) ≡ group_names t
  groups_named =
      names_flat _ _ (enumerate_from 0 t.baskets) (λ b. names_flat _ _ (enumerate_from 0 t.groups) (λ g.
      names_flat (λ m. at_least_row (row.GroupLow b.0 g.0 m) (group_terms t b.0 g.0 m) g.1.min_g ++ at_most_row (row.GroupHigh b.0 g.0 m) (group_terms t b.0 g.0 m) g.1.max_g)
      _ months (λ m. refl)))

  handouts_named : names_of (handout_rows t) ≡ handout_names t
  handouts_named =
      names_flat _ _ (enumerate_from 0 t.places) (λ p. names_flat _ _ (enumerate_from 0 t.commodities) (λ c. names_flat _ _ months (λ m. names_if _ _ _ refl)))

  balances_named : names_of (balance_rows t) ≡ balance_names t
  balances_named =
      names_flat _ _ (enumerate_from 0 t.places) (λ p. names_flat _ _ (enumerate_from 0 t.commodities) (λ c.
      names_flat (balance_row_at p.0 c.0) _ months (λ m. refl)))

  arcs_named : names_of (arc_rows t) ≡ arc_names t
  arcs_named = names_flat _ _ (enumerate_from 0 t.arcs) (λ a. names_flat _ _ months (λ m. names_if _ _ _ refl))

  storages_named : names_of (storage_rows t) ≡ storage_names t
  storages_named = names_flat _ _ (enumerate_from 0 t.places) (λ p. names_flat _ _ months (λ m. names_if _ _ _ refl))

  throughput_named : (p : ℕ) (limit : Option ℤ) (m : ℕ) → names_of (throughput_row t p limit m) ≡ throughput_names_in p limit m
  throughput_named p None m = refl
  throughput_named p (Some limit) m = refl

  throughputs_named : names_of (throughput_rows t) ≡ throughput_names t
  throughputs_named = names_flat _ _ (enumerate_from 0 t.places) (λ p. names_flat _ _ months (λ m. throughput_named p.0 p.1.throughput m))

  budget_named : (budget : Option ℤ) → names_of (budget_rows t budget) ≡ budget_names budget
  budget_named None = refl
  budget_named (Some limit) = refl

  lots_named : names_of (lot_rows t) ≡ lot_names t
  lots_named = names_flat _ _ (enumerate_from 0 t.offers) (λ o. names_flat _ _ months (λ m. names_if _ _ _ refl))

  pub rows_named : names_of (rows t) ≡ row_names t
  rows_named =
      names_append (nutrient_rows t) _ _ _ nutrients_named
      (names_append (group_rows t) _ _ _ groups_named
      (names_append (handout_rows t) _ _ _ handouts_named
      (names_append (balance_rows t) _ _ _ balances_named
      (names_append (arc_rows t) _ _ _ arcs_named
      (names_append (storage_rows t) _ _ _ storages_named
      (names_append (throughput_rows t) _ _ _ throughputs_named
      (names_append (budget_rows t t.settings.budget) _ _ _ (budget_named t.settings.budget) lots_named)))))))

  -- as many names as rows
  pub count_named : length (rows t) ≡ length (row_names t)
  count_named = sym (length-map (rows t) (λ r. r.name)) ∙ ap length rows_named

  -- the name that was found is that of the row
  pub found_name : (i : ℕ) (name : RowName) → Finds (row_names t) i (Err name) → option_map (λ r. r.name) (slice_get (rows t) i) ≡ Some name
  found_name i name h =
      sym (slice_get-map (λ r. r.name) (rows t) i) ∙ subst (λ (ns : List RowName). slice_get ns i ≡ Some name) (sym rows_named) h
