-- The ranges of numbers that are looked up in the tables, and of their products.
use Rattle.std.proofs.Common.{◌≡◌, ℕ, ◌*◌, ◌^◌, Bool, true, false, ◌&&◌, ◌==◌, cond, List, [], ◌∷◌, Option, Some, None, ℤ, pos, ◌*ℤ◌, All, refl, sym, arith}
use Rattle.std.specs.Prelude.{slice_get}
use Rattle.std.specs.List.{find}
use Rattle.std.specs.Option.{option_map_or}
use Rattle.std.proofs.lemmas.Int.{ints}
use Rattle.std.proofs.lemmas.List.Elements.{All-head, All-tail}
use Rattle.std.proofs.lemmas.Option.{slice_get_within, get_or_from_slice_get}
use Rattle.opt_model.specs.Settings.{days_of}
use Rattle.opt_model.specs.Tables.{Tables, heads_at, stock_at}
use Rattle.opt_model.specs.Quantities.{step_of}
use Rattle.opt_model.specs.declared.records.Commodity.{Commodity}
use Rattle.opt_model.specs.declared.records.Stock.{Stock}
use Rattle.opt_tables.specs.Facts.{IsFrom, IsCommodity, IsModel}
use Rattle.opt_network.proofs.Heads.{heads_within}
use Rattle.opt_network.proofs.Ranges.{days_within, product_within}
use Rattle.opt_rows.specs.Parts.{handed_grams}
use Rattle.opt_rows.proofs.UnitCosts.{There}
use Rattle.opt_rows.proofs.CostSizes.{at_there}

none_within : (most : ℕ) → IsFrom (pos 0) (pos most) (pos 0)
none_within most = record { above = omega (arith, ints); below = omega (arith, ints) }

-- the step of a ration
pub step_within : (t : Tables) → IsModel t → (commodity : ℕ) → IsFrom (pos 0) (pos 2000) (step_of t commodity)
step_within t model commodity = by (slice_get t.commodities commodity) refl
  where
    by : (o : Option Commodity) → slice_get t.commodities commodity ≡ o → IsFrom (pos 0) (pos 2000) (option_map_or (λ r. r.step_g) o (pos 0))
    by None e = none_within 2000
    by (Some r) e =
        let there : There t.commodities commodity r = record { within = slice_get_within t.commodities commodity r e; is = sym (get_or_from_slice_get t.commodities commodity r r e) } in
        let fact : IsCommodity r = at_there IsCommodity t.commodities commodity r there model.commodities in
        record { above = omega (arith, ints, fact.step_g.above); below = fact.step_g.below }

-- the stock at a place
found_within : {A : Type 0} (f : A → ℤ) (most : ℕ) (test : A → Bool) (xs : List A) → All (λ x. IsFrom (pos 0) (pos most) (f x)) xs
    → IsFrom (pos 0) (pos most) (option_map_or f (find test xs) (pos 0))
found_within f most test [] h = none_within most
found_within {A = A} f most test (x ∷ xs) h =
    by (test x) (All-head (λ x. IsFrom (pos 0) (pos most) (f x)) x xs h) (found_within f most test xs (All-tail (λ x. IsFrom (pos 0) (pos most) (f x)) x xs h))
  where
    by : (b : Bool) → IsFrom (pos 0) (pos most) (f x) → IsFrom (pos 0) (pos most) (option_map_or f (find test xs) (pos 0))
        → IsFrom (pos 0) (pos most) (option_map_or f (cond b (Some x) (find test xs)) (pos 0))
    by true here rest = here
    by false here rest = rest

pub stock_within : (t : Tables) → IsModel t → (place commodity month : ℕ) → IsFrom (pos 0) (pos (10 ^ 9)) (stock_at t place commodity month)
stock_within t model place commodity month =
    found_within (λ (r : Stock). r.kg) (10 ^ 9) (λ (r : Stock). (r.place == place) && (r.commodity == commodity) && (r.month == month)) t.stock
    (λ k d m. (model.stock k d m).kg)

-- what the persons of a basket get
pub person_days_within : (t : Tables) → IsModel t → (place basket month : ℕ)
    → IsFrom (pos 0) (pos (10 ^ 7 * 31)) (heads_at t place basket month *ℤ pos (days_of t.settings month))
person_days_within t model place basket month =
    product_within (heads_at t place basket month) (pos (days_of t.settings month)) (10 ^ 7) 31 (heads_within t model place basket month) (days_within t.settings model.settings month)

pub grams_within : (t : Tables) → IsModel t → (place commodity month basket : ℕ) → IsFrom (pos 0) (pos (10 ^ 7 * 31 * 2000)) (handed_grams t place commodity month basket)
grams_within t model place commodity month basket =
    product_within (heads_at t place basket month *ℤ pos (days_of t.settings month)) (step_of t commodity) (10 ^ 7 * 31) 2000
    (person_days_within t model place basket month) (step_within t model commodity)
