-- Amounts by place, basket or commodity, and month.
use Rattle.std.specs.Prelude.{◌≡◌, ℕ, Bool, ◌&&◌, ◌==◌, List, [], ◌∷◌, ◌++◌, Option, option_map, is_some, if◌then◌else◌}
use Rattle.std.specs.List.{find}
use Rattle.std.specs.Map.{lookup}
use Rattle.opt_model.specs.declared.records.Persons.{Persons}
use Rattle.opt_model.specs.declared.records.Stock.{Stock}
use Rattle.opt_model.specs.Tables.{Tables}
use Rattle.opt_tables.specs.Facts.{IsModel}
use Rattle.opt_tables.specs.declared.amounts.Spot.{Spot}
use Rattle.opt_tables.specs.declared.amounts.Amount.{Amount}

-- spots with their amounts
abbrev pub Entries : Type 0
Entries = List (Spot × Amount)

-- whether a spot is this one
abbrev pub is_spot : ℕ → ℕ → ℕ → Spot → Bool
is_spot place item month spot = (spot.place == place) && (spot.item == item) && (spot.month == month)

-- the amount at a place, of a basket or commodity, in a month; none where nothing is said of them
abbrev pub amount_at : Entries → ℕ → ℕ → ℕ → Option Amount
amount_at entries place item month = lookup (is_spot place item month) entries

-- these amounts, and one more at the end, unless one of the same spot is known
abbrev pub with_amount : Entries → Spot → Amount → Entries
with_amount entries spot amount =
    if is_some (amount_at entries spot.place spot.item spot.month) then entries else entries ++ (spot, amount) ∷ []

-- the persons of the first record of a place, a basket and a month
abbrev pub heads_in : List Persons → ℕ → ℕ → ℕ → Option Amount
heads_in records place basket month = option_map (λ r. record { amount = r.persons }) (find (λ r. (r.place == place) && (r.basket == basket) && (r.month == month)) records)

-- the kilograms of the first record of a place, a commodity and a month
abbrev pub stock_in : List Stock → ℕ → ℕ → ℕ → Option Amount
stock_in records place commodity month = option_map (λ r. record { amount = r.kg }) (find (λ r. (r.place == place) && (r.commodity == commodity) && (r.month == month)) records)

-- at every spot the amount is this one
abbrev pub AreAmounts : Entries → (ℕ → ℕ → ℕ → Option Amount) → Type 0
AreAmounts entries amount = (place item month : ℕ) → amount_at entries place item month ≡ amount place item month

-- a model that was read, with its persons and its stock by place and month
pub record HasAmounts (t : Tables) (heads kilograms : Entries) : Type 0 where
  pub model : IsModel t
  pub persons : AreAmounts heads (heads_in t.persons)
  pub stock : AreAmounts kilograms (stock_in t.stock)
