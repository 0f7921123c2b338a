-- Sums over quantities in the order of their numbers, and the sparse terms that stand for them.
use Rattle.std.proofs.Common.{◌≡◌, ℕ, zero, suc, ◌+◌, Bool, true, false, not, List, [], ◌∷◌, length, map, ℤ, pos, ◌+ℤ◌, ◌*ℤ◌, All, refl, ap, ◌∙◌, arith}
use Rattle.std.specs.Ordering.{int_eq}
use Rattle.std.specs.Cmp.{signed_Decides}
use Rattle.std.proofs.lemmas.Int.{ints}
use Rattle.std.proofs.lemmas.List.Elements.{All-head, All-tail}
use Rattle.opt_sums.specs.Sums.{at, sum_to}
use Rattle.opt_sums.specs.Entries.{weighted_sum}
use Rattle.opt_sums.proofs.Ring.{add_mul}
use Rattle.opt_sums.proofs.EntryLemmas.{weighted_sum-append}
use Rattle.opt_model.specs.Quantities.{list_if}
use Rattle.opt_model.proofs.Sums.{over_from}
use Rattle.opt_model.specs.declared.quantity.Quantity.{Quantity}

-- the sum over these quantities, numbered from k on, of c at the quantity times f at its number
abbrev pub total : (Quantity → ℤ) → (ℕ → ℤ) → ℕ → List Quantity → ℤ
total c f k [] = pos 0
total c f k (q ∷ qs) = (c q *ℤ f k) +ℤ total c f (k + 1) qs

-- the term of a quantity, where c at it is not 0
abbrev pub term_of : (Quantity → ℤ) → ℕ → Quantity → List (ℕ × ℤ)
term_of c number q = list_if (not (int_eq (c q) (pos 0))) ((number, c q) ∷ [])

one_term : (z : ℤ) (k : ℕ) (f : ℕ → ℤ) (b : Bool) → int_eq z (pos 0) ≡ b → weighted_sum (list_if (not b) ((k, z) ∷ [])) f ≡ z *ℤ f k
one_term z k f true e = let zero_is : z ≡ pos 0 = (signed_Decides z (pos 0)).0 e in rw zero_is (omega (arith, ints))
one_term z k f false e = omega (arith, ints)

-- the terms other than 0 say the whole sum
pub terms_total : (c : Quantity → ℤ) (f : ℕ → ℤ) (k : ℕ) (qs : List Quantity) → weighted_sum (over_from (term_of c) k qs) f ≡ total c f k qs
terms_total c f k [] = refl
terms_total c f k (q ∷ qs) =
    weighted_sum-append (term_of c k q) (over_from (term_of c) (k + 1) qs) f
    ∙ (ap (λ z. z +ℤ weighted_sum (over_from (term_of c) (k + 1) qs) f) (one_term (c q) k f (int_eq (c q) (pos 0)) refl)
    ∙ ap (λ z. (c q *ℤ f k) +ℤ z) (terms_total c f (k + 1) qs))

pub total-add : (c d : Quantity → ℤ) (f : ℕ → ℤ) (k : ℕ) (qs : List Quantity) → total (λ q. c q +ℤ d q) f k qs ≡ total c f k qs +ℤ total d f k qs
total-add c d f k [] = refl
total-add c d f k (q ∷ qs) = omega (arith, ints, add_mul (c q) (d q) (f k), total-add c d f (k + 1) qs)

-- the sum of what is 0 at each quantity
pub total-none : (c : Quantity → ℤ) (f : ℕ → ℤ) (k : ℕ) (qs : List Quantity) → All (λ q. c q ≡ pos 0) qs → total c f k qs ≡ pos 0
total-none c f k [] h = refl
total-none c f k (q ∷ qs) h =
    let here : c q ≡ pos 0 = All-head (λ r. c r ≡ pos 0) q qs h in
    rw here (omega (arith, ints, total-none c f (k + 1) qs (All-tail (λ r. c r ≡ pos 0) q qs h)))

-- the sum by numbers below a bound, from the first number on
sum_to-first : (n : ℕ) (f : ℕ → ℤ) → sum_to (suc n) f ≡ f 0 +ℤ sum_to n (λ j. f (suc j))
sum_to-first zero f = omega (arith, ints)
sum_to-first (suc n) f = omega (arith, ints, sum_to-first n f)

-- the sum over lists of the same length, by numbers
pub sum_to-total : (c : Quantity → ℤ) (f : ℕ → ℤ) (k : ℕ) (qs : List Quantity) → sum_to (length qs) (λ j. at (map c qs) j *ℤ f (k + j)) ≡ total c f k qs
sum_to-total c f k [] = refl
sum_to-total c f k (q ∷ qs) =
    sum_to-first (length qs) (λ j. at (map c (q ∷ qs)) j *ℤ f (k + j))
    ∙ (ap (λ z. (c q *ℤ f (k + 0)) +ℤ z) (shifted qs (length qs)) ∙ (ap (λ n. (c q *ℤ f n) +ℤ sum_to (length qs) (λ j. at (map c qs) j *ℤ f ((k + 1) + j))) (plus_none k)
    ∙ ap (λ z. (c q *ℤ f k) +ℤ z) (sum_to-total c f (k + 1) qs)))
  where
    plus_none : (k : ℕ) → k + 0 ≡ k
    plus_none k = omega arith

    one_on : (k j : ℕ) → k + suc j ≡ (k + 1) + j
    one_on k j = omega arith

    shifted : (qs : List Quantity) (n : ℕ) → sum_to n (λ j. at (map c qs) j *ℤ f (k + suc j)) ≡ sum_to n (λ j. at (map c qs) j *ℤ f ((k + 1) + j))
    shifted qs zero = refl
    shifted qs (suc n) = omega (arith, ints, shifted qs n, ap (λ m. at (map c qs) n *ℤ f m) (one_on k n))
