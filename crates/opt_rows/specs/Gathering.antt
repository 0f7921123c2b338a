-- Terms as entries by the numbers of their quantities, before those at one number are taken together.
use Rattle.std.specs.Prelude.{◌≡◌, ℕ, ◌^◌, ◌<◌, List, [], ◌∷◌, ◌++◌, ◌==◌, map, position, flat_map, Option, Some, None, ℤ, pos, ◌+ℤ◌, neg_ℤ, unsigned_abs, not, if◌then◌else◌}
use Rattle.std.specs.Ordering.{int_eq}
use Rattle.opt_sums.specs.Entries.{coef, IsRising, HasNoZero}
use Rattle.opt_model.specs.Quantities.{list_if, same_quantity}
use Rattle.opt_model.specs.Rows.{Terms, Relation, at_least, negation, coefficients_by_number}
use Rattle.opt_model.specs.declared.quantity.Quantity.{Quantity}
use Rattle.opt_rows.specs.Systems.{SystemRow, kind_of}

-- an entry at a number, where there is one
abbrev pub entry_at : Option ℕ → ℤ → List (ℕ × ℤ)
entry_at None coefficient = []
entry_at (Some number) coefficient = (number, coefficient) ∷ []

-- the entry of a term, or none where its quantity is not in the list
abbrev pub entry_of : List Quantity → Quantity × ℤ → List (ℕ × ℤ)
entry_of qs term = entry_at (position (same_quantity term.0) qs) term.1

-- the entries of terms, in their order
abbrev pub entries_of : List Quantity → Terms → List (ℕ × ℤ)
entries_of qs terms = flat_map (entry_of qs) terms

-- the coefficients at each number add up to less than 2^63
abbrev pub HasShortSums : List (ℕ × ℤ) → Type 0
HasShortSums entries = (k : ℕ) → unsigned_abs (coef entries k) < 2 ^ 63

-- the entries other than 0
abbrev pub without_zeros : List (ℕ × ℤ) → List (ℕ × ℤ)
without_zeros [] = []
without_zeros (e ∷ es) = list_if (not (int_eq e.1 (pos 0))) (e ∷ []) ++ without_zeros es

-- the entries with the other sign
abbrev pub other_sign : List (ℕ × ℤ) → List (ℕ × ℤ)
other_sign entries = map (λ e. (e.0, neg_ℤ e.1)) entries

-- the sums of the coefficients at each number are the same
abbrev pub HasSums : List (ℕ × ℤ) → List (ℕ × ℤ) → Type 0
HasSums entries sums = (k : ℕ) → coef sums k ≡ coef entries k

-- the sum at the number of an entry grows by its coefficient, and each other stays
abbrev pub AddsEntry : ℕ × ℤ → List (ℕ × ℤ) → List (ℕ × ℤ) → Type 0
AddsEntry entry old new = (k : ℕ) → coef new k ≡ coef old k +ℤ (if entry.0 == k then entry.1 else pos 0)

-- terms by rising number, without 0, with the sums of these entries
pub record AreGathered (entries terms : List (ℕ × ℤ)) : Type 0 where
  pub rising : IsRising terms
  pub no_zero : HasNoZero terms
  pub same : HasSums entries terms

-- rows with one more, whatever the terms are that have these entries
abbrev pub AddsRow : List Quantity → List (ℕ × ℤ) → Relation → ℤ → List SystemRow → List SystemRow → Type 0
AddsRow qs entries relation right old new =
    (terms : Terms) → entries ≡ entries_of qs terms → new ≡ old ++ record { kind = kind_of relation; right_hand_side = right; terms = coefficients_by_number qs terms } ∷ []

-- the same for the sum at most a limit, both negated
abbrev pub AddsLimit : List Quantity → List (ℕ × ℤ) → ℤ → List SystemRow → List SystemRow → Type 0
AddsLimit qs entries limit old new =
    (terms : Terms) → entries ≡ entries_of qs terms
    → new ≡ old ++ record { kind = kind_of at_least; right_hand_side = neg_ℤ limit; terms = coefficients_by_number qs (negation terms) } ∷ []
