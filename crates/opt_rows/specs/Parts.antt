-- The rows of one kind for one need, group, place or commodity in a month, as the rows of the model have them.
use Rattle.std.specs.Prelude.{ℕ, List, [], ◌∷◌, ◌++◌, ℤ, pos, neg_ℤ, ◌*ℤ◌}
use Rattle.opt_model.specs.Settings.{days_of}
use Rattle.opt_model.specs.Tables.{Tables, heads_at, stock_at}
use Rattle.opt_model.specs.Quantities.{step_of}
use Rattle.opt_model.specs.Rows.{Row, Terms, at_least_row, at_most_row, equal_row, negation, nutrient_terms, group_terms, handed_terms, bought_terms, arrived_terms, kept_terms, sent_terms, balance_rows, arc_rows, storage_rows, throughput_rows}
use Rattle.opt_model.specs.declared.records.Group.{Group}
use Rattle.opt_model.specs.declared.records.Need.{Need}
use Rattle.opt_model.specs.declared.quantity.Quantity.TheVariants.{Short, Keep, Feed}
use Rattle.opt_model.specs.declared.quantity.RowName.TheVariants as row

-- the row of a need in a month
abbrev pub nutrient_row : Tables → ℕ → Need → ℕ → List Row
nutrient_row t number need m =
    at_least_row (row.Nutrient need.basket need.nutrient m) (nutrient_terms t need.basket need.nutrient m ++ (Short number m, pos 100) ∷ []) (pos 100 *ℤ need.required)

-- both rows of a group of a basket in a month
abbrev pub group_pair : Tables → ℕ → ℕ → Group → ℕ → List Row
group_pair t b number group m =
    at_least_row (row.GroupLow b number m) (group_terms t b number m) group.min_g ++ at_most_row (row.GroupHigh b number m) (group_terms t b number m) group.max_g

-- the grams of a commodity that the persons of a basket at a place get in a month for each step of their ration
abbrev pub handed_grams : Tables → ℕ → ℕ → ℕ → ℕ → ℤ
handed_grams t place commodity month basket = (heads_at t place basket month *ℤ pos (days_of t.settings month)) *ℤ step_of t commodity

-- both rows of what is handed out of a commodity at a place in a month
abbrev pub handout_pair : Tables → ℕ → ℕ → ℕ → List Row
handout_pair t p c m =
    at_least_row (row.HandoutLow p c m) ((Feed p c m, pos 1000) ∷ negation (handed_terms t p c m)) (pos 0)
    ++ at_least_row (row.HandoutHigh p c m) ((Feed p c m, neg_ℤ (pos 1000)) ∷ handed_terms t p c m) (neg_ℤ (pos 999))

-- the terms of the balance of a commodity at a place in a month
abbrev pub balance_terms : Tables → ℕ → ℕ → ℕ → Terms
balance_terms t p c m =
    bought_terms t p c m
    ++ (arrived_terms t p c m ++ (kept_terms p c m ++ (negation (sent_terms t p c m) ++ (Keep p c m, neg_ℤ (pos 1)) ∷ (Feed p c m, neg_ℤ (pos 1)) ∷ [])))

-- the balance of a commodity at a place in a month
abbrev pub balance_row : Tables → ℕ → ℕ → ℕ → List Row
balance_row t p c m = equal_row (row.Balance p c m) (balance_terms t p c m) (neg_ℤ (stock_at t p c m))

-- the rows of balances, arcs, storage and throughput
abbrev pub network_rows : Tables → List Row
network_rows t = balance_rows t ++ (arc_rows t ++ (storage_rows t ++ throughput_rows t))
