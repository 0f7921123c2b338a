-- Multipliers laid out by row, and those that are looked for among the entries.
use Rattle.std.proofs.Common.{◌≡◌, ◌≢◌, ◌⊎◌, inl, inr, ℕ, ◌+◌, ◌≤◌, ◌<◌, List, length, take, get_or, set, Ok, Err, ℤ, pos, ap, sym, ◌∙◌, arith, get_or-set_other, get_or-set_same}
use Rattle.std.specs.Ordering.{nat_cmp, ordering_index}
use Rattle.std.specs.declared.cmp.Ordering.TheVariants.{Less, Equal, Greater}
use Rattle.std.specs.List.Sorted.{IsBinarySearchResult, IsNonDecreasingBy}
use Rattle.std.proofs.lemmas.Int.{ints}
use Rattle.std.proofs.lemmas.Bool.Decides.{nat_tests}
use Rattle.opt_sums.specs.Sums.{at}
use Rattle.opt_sums.specs.Entries.{coef, IsRising}
use Rattle.opt_sums.proofs.EntryLemmas.{same_or_other, one_same, one_other, coef-none, coef-take}
use Rattle.opt_sums.proofs.RisingLemmas.{coef-take_before, coef-get_or}
use Rattle.opt_bound.specs.Kept.{IsByRow}

-- ---- by row
-- one entry more in a list that has a place for it
pub IsByRow-set : (by_row : List ℤ) (entries : List (ℕ × ℤ)) (i : ℕ) (d : ℕ × ℤ) (y : ℤ) → IsRising entries → i < length entries → (get_or entries i d).0 < length by_row → y ≡ (get_or entries i d).1 → IsByRow (take i entries) by_row → IsByRow (take (i + 1) entries) (set by_row (get_or entries i d).0 y)
IsByRow-set by_row entries i d y rising h place is says k =
    elim (same_or_other (get_or entries i d).0 k) [
      | inl e ↦
          let p : (get_or entries i d).0 ≡ k = e in
          omega (arith, ints, is, ap (at (set by_row (get_or entries i d).0 y)) p, get_or-set_same by_row (get_or entries i d).0 y (pos 0) place, coef-take entries i d k h, one_same (get_or entries i d).0 k (get_or entries i d).1 p, coef-take_before entries i d rising h, ap (coef (take i entries)) p)
      | inr e ↦
          let p : (get_or entries i d).0 ≢ k = e in
          let q : k ≢ (get_or entries i d).0 = λ r. p (sym r) in
          omega (arith, ints, get_or-set_other by_row (get_or entries i d).0 k y (pos 0) q, coef-take entries i d k h, one_other (get_or entries i d).0 k (get_or entries i d).1 p, says k)
    ]

-- ---- by search
rank_up : (a b row : ℕ) → a ≤ b → ordering_index (nat_cmp a row) ≤ ordering_index (nat_cmp b row)
rank_up a b row h = grind (arith, nat_tests)

rising_ranks : (entries : List (ℕ × ℤ)) (row : ℕ) → IsRising entries → IsNonDecreasingBy (λ e. ordering_index (nat_cmp e.0 row)) entries
rising_ranks entries row rising i j d h k =
    elim (same_or_other i j) [
      | inl e ↦ let p : i ≡ j = e in omega (arith, ap (λ n. ordering_index (nat_cmp (get_or entries n d).0 row)) p)
      | inr e ↦
          let p : i ≢ j = e in
          rank_up (get_or entries i d).0 (get_or entries j d).0 row (omega (arith, rising i j d (omega arith) k))
    ]

equal_means : (a row : ℕ) → nat_cmp a row ≡ Equal → a ≡ row
equal_means a row h = grind (arith, nat_tests)

less_means : (a row : ℕ) → nat_cmp a row ≡ Less → a ≢ row
less_means a row h = grind (arith, nat_tests)

greater_means : (a row : ℕ) → nat_cmp a row ≡ Greater → a ≢ row
greater_means a row h = grind (arith, nat_tests)

-- the entry that was found has the row's coefficient
pub coef-found : (entries : List (ℕ × ℤ)) (row k : ℕ) (d : ℕ × ℤ) → IsRising entries → k < length entries → IsBinarySearchResult (λ e. nat_cmp e.0 row) entries (Ok k) → coef entries row ≡ (get_or entries k d).1
coef-found entries row k d rising inside found =
    ap (coef entries) (sym (equal_means (get_or entries k d).0 row (found d))) ∙ coef-get_or entries k d rising inside

-- where none was found there is no coefficient
pub coef-not_found : (entries : List (ℕ × ℤ)) (row k : ℕ) → IsRising entries → IsBinarySearchResult (λ e. nat_cmp e.0 row) entries (Err k) → coef entries row ≡ pos 0
coef-not_found entries row k rising none =
    coef-none entries row
    (λ i d h.
    elim (before_or_past i k) [
      | inl before ↦ less_means (get_or entries i d).0 row ((none (rising_ranks entries row rising)).0 i d (omega arith) before)
      | inr past ↦ greater_means (get_or entries i d).0 row ((none (rising_ranks entries row rising)).1 i d past h)
    ])
  where
    before_or_past : (i k : ℕ) → (i < k) ⊎ (k ≤ i)
    before_or_past i k = grind arith
