-- The steps by which two scaled lists are added term by term.
use Rattle.std.proofs.Common.{◌≡◌, ◌≢◌, ◌⊎◌, inl, inr, ℕ, ◌+◌, ◌<◌, ◌≤◌, List, [], ◌∷◌, ◌++◌, length, ℤ, ◌+ℤ◌, Bool, true, false, ◌&&◌, Result, Ok, Err, ap, sym, ◌∙◌}
use Rattle.opt_sums.specs.Entries.{IsRising}
use Rattle.opt_frac.specs.declared.elim_fault.ElimFault.{ElimFault}
use Rattle.opt_frac.specs.declared.elim_fault.ElimFault.TheVariants.{Wide, OutOfMemory}
use Rattle.opt_frac.specs.Divisors.{fits, all_fit}
use Rattle.opt_frac.specs.Elimination.{unless_zero}
use Rattle.opt_frac.specs.Merging.{Writes, rest_of, multiple_at, term_at, sum_fits}
use Rattle.opt_frac.proofs.FitLemmas.{and_false_right}
use Rattle.opt_frac.proofs.MergeLemmas.{Adds, adds_left, adds_right, adds_both, unfit_right, unfit_both}
use Rattle.opt_frac.proofs.RestLemmas.{rest_take, rest_done, rest_above, rest_above_next, Left}

module _ (g f : ℤ) (col : ℕ) (kept added sums all : List (ℕ × ℤ)) (fitting : Bool) (i k : ℕ) where
  -- what is written and what is left from terms i and k on make the whole
  abbrev pub Remains : Type 0
  Remains = Adds sums (rest_of g col kept i) (rest_of f col added k) all fitting

module _ (g f : ℤ) (col : ℕ) (kept added sums all : List (ℕ × ℤ)) (fitting : Bool) (i k : ℕ) (kept_rising : IsRising kept) (added_rising : IsRising added) (in_kept : i < length kept) (in_added : k < length added) (is : Remains g f col kept added sums all fitting i k) where
  pub left_step : (term_at kept i).0 ≢ col → (term_at kept i).0 < (term_at added k).0 → fits (multiple_at g kept i).1 ≡ true → Remains g f col kept added (sums ++ multiple_at g kept i ∷ []) all fitting (i + 1) k
  left_step other below fit =
      adds_left sums (multiple_at g kept i) (rest_of g col kept (i + 1)) (rest_of f col added k) all fitting
      (rest_above_next g col kept i kept_rising in_kept)
      (rest_above (term_at kept i).0 f col added k added_rising in_added below)
      fit
      (rw (rest_take g col kept i in_kept other) at is)

  pub right_step : (term_at added k).0 ≢ col → (term_at added k).0 < (term_at kept i).0 → fits (multiple_at f added k).1 ≡ true → Remains g f col kept added (sums ++ multiple_at f added k ∷ []) all fitting i (k + 1)
  right_step other below fit =
      adds_right sums (multiple_at f added k) (rest_of g col kept i) (rest_of f col added (k + 1)) all fitting
      (rest_above (term_at added k).0 g col kept i kept_rising in_kept below)
      (rest_above_next f col added k added_rising in_added)
      fit
      (rw (rest_take f col added k in_added other) at is)

  pub right_unfit : (term_at added k).0 ≢ col → fits (multiple_at f added k).1 ≡ false → fitting ≡ false
  right_unfit other unfit =
      unfit_right sums (multiple_at f added k) (rest_of g col kept i) (rest_of f col added (k + 1)) all fitting unfit
      (rw (rest_take f col added k in_added other) at is)

  pub both_step : (term_at kept i).0 ≢ col → (term_at kept i).0 ≡ (term_at added k).0 → sum_fits (multiple_at g kept i).1 (multiple_at f added k).1 ≡ true → Remains g f col kept added (sums ++ unless_zero ((term_at kept i).0, (multiple_at g kept i).1 +ℤ (multiple_at f added k).1) []) all fitting (i + 1) (k + 1)
  both_step other same fit =
      adds_both sums (multiple_at g kept i) (multiple_at f added k) (rest_of g col kept (i + 1)) (rest_of f col added (k + 1)) all fitting same
      (rw same at (rest_above_next g col kept i kept_rising in_kept))
      (rest_above_next f col added k added_rising in_added)
      fit
      (rw (rest_take g col kept i in_kept other, rest_take f col added k in_added (λ e. other (same ∙ e))) at is)

  pub both_unfit : (term_at kept i).0 ≢ col → (term_at kept i).0 ≡ (term_at added k).0 → sum_fits (multiple_at g kept i).1 (multiple_at f added k).1 ≡ false → fitting ≡ false
  both_unfit other same unfit =
      unfit_both sums (multiple_at g kept i) (multiple_at f added k) (rest_of g col kept (i + 1)) (rest_of f col added (k + 1)) all fitting same
      (rw same at (rest_above_next g col kept i kept_rising in_kept))
      (rest_above_next f col added k added_rising in_added)
      unfit
      (rw (rest_take g col kept i in_kept other, rest_take f col added k in_added (λ e. other (same ∙ e))) at is)

-- one of the lists is used up
pub left_by_end : (g f : ℤ) (col : ℕ) (kept added : List (ℕ × ℤ)) (i k : ℕ) → (length kept ≤ i) ⊎ (length added ≤ k) → Left (rest_of g col kept i) (rest_of f col added k)
left_by_end g f col kept added i k (inl h) = inl (rest_done g col kept i h)
left_by_end g f col kept added i k (inr h) = inr (rest_done f col added k h)

-- what is left of both lists is written after the other, where one of them is used up
pub Writes-end : (result : Result (Unit {0}) ElimFault) (sums middle new es ds all : List (ℕ × ℤ)) (fitting : Bool) → ((sums ++ es ++ ds ≡ all) × ((all_fit es && all_fit ds) ≡ fitting)) → all_fit es ≡ true → middle ≡ sums ++ es → Writes result middle new (all_fit ds) ds → Writes result [] new fitting all
Writes-end (Ok done) sums middle new es ds all fitting is fit first writes =
    (sym is.1 ∙ ap (λ b. b && all_fit ds) fit ∙ writes.0, writes.1 ∙ ap (λ s. s ++ ds) first ∙ is.0)
Writes-end (Err Wide) sums middle new es ds all fitting is fit first writes = sym is.1 ∙ and_false_right (all_fit es) (all_fit ds) writes
Writes-end (Err OutOfMemory) sums middle new es ds all fitting is fit first writes = tt
