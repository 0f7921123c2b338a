-- The row that is made of gathered terms is the row of all terms with these entries.
use Rattle.std.proofs.Common.{◌≡◌, ℕ, ◌≤◌, List, [], ◌∷◌, ◌++◌, count_by, Option, Some, None, ℤ, neg_ℤ, refl, ap, sym, ◌∙◌}
use Rattle.opt_sums.specs.Entries.{coef}
use Rattle.opt_model.specs.Quantities.{same_quantity}
use Rattle.opt_model.specs.Rows.{Terms, Relation, negation, at_least}
use Rattle.opt_model.specs.declared.quantity.Quantity.{Quantity}
use Rattle.std.specs.Prelude.{position}
use Rattle.opt_rows.specs.Gathering.{entry_at, entries_of, other_sign, AreGathered, AddsRow, AddsLimit}
use Rattle.opt_rows.specs.Systems.{SystemRow, kind_of}
use Rattle.opt_rows.proofs.Distinct.{once_distinct}
use Rattle.opt_rows.proofs.Gathering.{gathered_are}
use Rattle.opt_rows.proofs.MapSums.{other_sign_coef, other_sign_rising, other_sign_no_zero}

-- no quantity is in the list twice
abbrev pub HasEachOnce : List Quantity → Type 0
HasEachOnce qs = (q : Quantity) → count_by (same_quantity q) qs ≤ 1

pub row_added : (qs : List Quantity) (entries gathered : List (ℕ × ℤ)) (relation : Relation) (right : ℤ) (old new : List SystemRow) → HasEachOnce qs → AreGathered entries gathered
    → new ≡ old ++ record { kind = kind_of relation; right_hand_side = right; terms = gathered } ∷ [] → AddsRow qs entries relation right old new
row_added qs entries gathered relation right old new once is added terms e =
    added
    ∙ ap (λ (ts : List (ℕ × ℤ)). old ++ record { kind = kind_of relation; right_hand_side = right; terms = ts } ∷ [])
    (gathered_are qs terms gathered (once_distinct qs once) is.rising is.no_zero (λ k. is.same k ∙ ap (λ (es : List (ℕ × ℤ)). coef es k) e))

-- the entries of terms with the other sign
entries_negation : (qs : List Quantity) (terms : Terms) → entries_of qs (negation terms) ≡ other_sign (entries_of qs terms)
entries_negation qs [] = refl
entries_negation qs (term ∷ terms) =
    by (position (same_quantity term.0) qs) (entries_negation qs terms)
  where
    by : (o : Option ℕ) → entries_of qs (negation terms) ≡ other_sign (entries_of qs terms) → entry_at o (neg_ℤ term.1) ++ entries_of qs (negation terms) ≡ other_sign (entry_at o term.1 ++ entries_of qs terms)
    by None rest = rest
    by (Some i) rest = ap (λ (es : List (ℕ × ℤ)). (i, neg_ℤ term.1) ∷ es) rest

pub negated_added : (qs : List Quantity) (entries gathered : List (ℕ × ℤ)) (limit : ℤ) (old new : List SystemRow) → HasEachOnce qs → AreGathered entries gathered
    → new ≡ old ++ record { kind = kind_of at_least; right_hand_side = neg_ℤ limit; terms = other_sign gathered } ∷ [] → AddsLimit qs entries limit old new
negated_added qs entries gathered limit old new once is added terms e =
    added
    ∙ ap (λ (ts : List (ℕ × ℤ)). old ++ record { kind = kind_of at_least; right_hand_side = neg_ℤ limit; terms = ts } ∷ [])
    (gathered_are qs (negation terms) (other_sign gathered) (once_distinct qs once) (other_sign_rising gathered is.rising) (other_sign_no_zero gathered is.no_zero) same)
  where
    same : (k : ℕ) → coef (other_sign gathered) k ≡ coef (entries_of qs (negation terms)) k
    same k =
        other_sign_coef gathered k
        ∙ (ap neg_ℤ (is.same k ∙ ap (λ (es : List (ℕ × ℤ)). coef es k) e)
        ∙ sym (ap (λ (es : List (ℕ × ℤ)). coef es k) (entries_negation qs terms) ∙ other_sign_coef (entries_of qs terms) k))
