-- How many persons a place feeds.
use Rattle.std.proofs.Common.{◌≡◌, ℕ, ◌+◌, ◌<◌, ◌^◌, Bool, true, false, cond, List, [], ◌∷◌, length, take, Some, ℤ, pos, ◌+ℤ◌, All, ap, ◌∙◌, arith}
use Rattle.std.specs.Prelude.{◌&&◌, ◌==◌}
use Rattle.std.specs.List.{find}
use Rattle.std.specs.Option.{option_map_or}
use Rattle.std.proofs.lemmas.Int.{ints}
use Rattle.std.proofs.lemmas.List.Elements.{All-head, All-tail}
use Rattle.opt_model.specs.Tables.{Tables, heads_at}
use Rattle.opt_model.specs.Quantities.{over, sum_over}
use Rattle.opt_model.specs.declared.records.Persons.{Persons}
use Rattle.opt_model.proofs.Sums.{sum_over-append}
use Rattle.opt_tables.specs.Facts.{IsFrom, IsModel}
use Rattle.opt_network.proofs.RecordLists.{over_next}

-- a number of a record that is found, or 0
pub found_within : {A : Type 0} (f : A → ℤ) (most : ℕ) (test : A → Bool) (xs : List A) → All (λ x. IsFrom (pos 0) (pos most) (f x)) xs
    → IsFrom (pos 0) (pos most) (option_map_or f (find test xs) (pos 0))
found_within f most test [] h = record { above = omega (arith, ints); below = omega (arith, ints) }
found_within {A = A} f most test (x ∷ xs) h =
    by (test x) (All-head (λ x. IsFrom (pos 0) (pos most) (f x)) x xs h) (found_within f most test xs (All-tail (λ x. IsFrom (pos 0) (pos most) (f x)) x xs h))
  where
    by : (b : Bool) → IsFrom (pos 0) (pos most) (f x) → IsFrom (pos 0) (pos most) (option_map_or f (find test xs) (pos 0))
        → IsFrom (pos 0) (pos most) (option_map_or f (cond b (Some x) (find test xs)) (pos 0))
    by true here rest = here
    by false here rest = rest

pub heads_within : (t : Tables) → IsModel t → (place basket month : ℕ) → IsFrom (pos 0) (pos (10 ^ 7)) (heads_at t place basket month)
heads_within t model place basket month =
    found_within (λ (r : Persons). r.persons) (10 ^ 7) (λ (r : Persons). (r.place == place) && (r.basket == basket) && (r.month == month)) t.persons
    (λ k d m. (model.persons k d m).persons)

-- the persons of the first baskets
abbrev pub heads_below : Tables → ℕ → ℕ → ℕ → ℤ
heads_below t place month i = sum_over (over (take i t.baskets) λ b _. b ∷ []) λ b. heads_at t place b month

pub heads_more : (t : Tables) (place month i : ℕ) → i < length t.baskets → heads_below t place month (i + 1) ≡ heads_below t place month i +ℤ heads_at t place i month
heads_more t place month i lt =
    ap (λ bs. sum_over bs (λ b. heads_at t place b month)) (over_next (λ b. b ∷ []) t.baskets i lt)
    ∙ (sum_over-append (λ b. heads_at t place b month) (over (take i t.baskets) λ b _. b ∷ []) (i ∷ []) ∙ omega (arith, ints))
