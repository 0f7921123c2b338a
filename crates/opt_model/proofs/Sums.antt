-- Sums of a number for each record, sums of terms, and lists made record by record.
use Rattle.std.proofs.Common.{◌≡◌, ℕ, ◌+◌, ◌*◌, ◌<◌, zero, suc, Bool, true, List, [], ◌∷◌, ◌++◌, length, take, get_or, ℤ, pos, ◌+ℤ◌, ◌≤ℤ◌, All, refl, ◌∙◌, ap, subst, arith, length-append, zero-mul, add-zero}
use Rattle.std.proofs.lemmas.Int.{ints}
use Rattle.std.proofs.lemmas.List.{take_more}
use Rattle.std.proofs.lemmas.Bool.{or_left, or_right}
use Rattle.std.proofs.lemmas.List.Elements.{All-append}
use Rattle.std.proofs.lemmas.List.Folds.{list_any-append}
use Rattle.std.specs.List.{flat_map, enumerate_from, list_any}
use Rattle.std.specs.Int.Signed.{≤ℤ_refl}
use Rattle.opt_model.specs.Quantities.{over, sum_over}
use Rattle.opt_model.specs.Rows.{Terms}
use Rattle.opt_model.specs.Plans.{Plan, sum_of}

module _ {A : Type 0} (f : A → ℤ) where
  -- the sum over two lists
  pub sum_over-append : (xs ys : List A) → sum_over (xs ++ ys) f ≡ sum_over xs f +ℤ sum_over ys f
  sum_over-append [] ys = omega (arith, ints)
  sum_over-append (x ∷ xs) ys = omega (arith, ints, sum_over-append xs ys)

  -- the sum over one more record
  pub sum_over-take_more : (xs : List A) (i : ℕ) (d : A) → i < length xs → sum_over (take (i + 1) xs) f ≡ sum_over (take i xs) f +ℤ f (get_or xs i d)
  sum_over-take_more xs i d h =
      ap (λ ys. sum_over ys f) (take_more xs i d h) ∙ (sum_over-append (take i xs) (get_or xs i d ∷ []) ∙ omega (arith, ints))

  -- a sum of numbers that are not negative is not negative
  pub sum_over-not_negative : (xs : List A) → All (λ x. pos 0 ≤ℤ f x) xs → pos 0 ≤ℤ sum_over xs f
  sum_over-not_negative [] h = ≤ℤ_refl (pos 0)
  sum_over-not_negative (x ∷ xs) h = omega (arith, ints, h 0 x (omega arith), sum_over-not_negative xs (λ k d m. h (suc k) d (omega arith)))

  -- a sum of numbers up to a limit is at most as many times the limit
  pub sum_over-at_most : (most : ℕ) (xs : List A) → All (λ x. f x ≤ℤ pos most) xs → sum_over xs f ≤ℤ pos (length xs * most)
  sum_over-at_most most [] h = omega (arith, ints, zero-mul most)
  sum_over-at_most most (x ∷ xs) h = grind (arith, ints, h 0 x (omega arith), sum_over-at_most most xs (λ k d m. h (suc k) d (omega arith)))

-- the sum of two lists of terms
pub sum_of-append : (xs ys : Terms) (plan : Plan) → sum_of (xs ++ ys) plan ≡ sum_of xs plan +ℤ sum_of ys plan
sum_of-append [] ys plan = omega (arith, ints)
sum_of-append (x ∷ xs) ys plan = omega (arith, ints, sum_of-append xs ys plan)

module _ {A B : Type 0} (f : ℕ → A → List B) where
  -- a list made record by record, numbered from k on
  abbrev pub over_from : ℕ → List A → List B
  over_from k xs = flat_map (λ r. f r.0 r.1) (enumerate_from k xs)

  -- what one record adds has an element that passes
  pub list_any-over : (p : B → Bool) (k : ℕ) (xs : List A) (i : ℕ) (d : A) → i < length xs → list_any p (f (k + i) (get_or xs i d)) ≡ true → list_any p (over_from k xs) ≡ true
  list_any-over p k [] i d h e = absurd (omega arith)
  list_any-over p k (x ∷ xs) zero d h e =
      list_any-append p (f k x) (over_from (k + 1) xs) ∙ or_left _ _ (subst (λ n. list_any p (f n x) ≡ true) (add-zero k) e)
  list_any-over p k (x ∷ xs) (suc i) d h e =
      list_any-append p (f k x) (over_from (k + 1) xs)
      ∙ or_right _ _ (list_any-over p (k + 1) xs i d (omega arith) (subst (λ n. list_any p (f n (get_or xs i d)) ≡ true) (omega arith) e))

  -- what every record adds has a property
  pub All-over : (P : B → Type 0) (k : ℕ) (xs : List A) → ((i : ℕ) (d : A) → i < length xs → All P (f (k + i) (get_or xs i d))) → All P (over_from k xs)
  All-over P k [] h = λ i d m. absurd (omega arith)
  All-over P k (x ∷ xs) h =
      All-append P (f k x) (over_from (k + 1) xs) (subst (λ n. All P (f n x)) (add-zero k) (h 0 x (omega arith)))
      (All-over P (k + 1) xs (λ i d m. subst (λ n. All P (f n (get_or xs i d))) (omega arith) (h (suc i) d (omega arith))))

  -- a list to which every record adds one element is as long as the records
  pub length-over_one : (k : ℕ) (xs : List A) → ((n : ℕ) (x : A) → length (f n x) ≡ 1) → length (over_from k xs) ≡ length xs
  length-over_one k [] h = refl
  length-over_one k (x ∷ xs) h = omega (arith, length-append (f k x) (over_from (k + 1) xs), h k x, length-over_one (k + 1) xs h)

-- records that are not there add nothing
pub over-none : {A B : Type 0} (f : ℕ → A → List B) (xs : List A) → xs ≡ [] → over xs f ≡ []
over-none f xs e = ap (λ ys. over ys f) e

-- nothing for any record adds nothing
pub over-empty : {A B : Type 0} (k : ℕ) (xs : List A) (f : ℕ → A → List B) → ((n : ℕ) (x : A) → f n x ≡ []) → over_from f k xs ≡ []
over-empty k [] f h = refl
over-empty k (x ∷ xs) f h = ap (λ ys. ys ++ over_from f (k + 1) xs) (h k x) ∙ over-empty (k + 1) xs f h
