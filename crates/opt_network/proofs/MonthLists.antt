-- Counts and lists over the months so far.
use Rattle.std.proofs.Common.{◌≡◌, ℕ, ◌+◌, ◌≤◌, zero, suc, Bool, true, false, ◌&&◌, cond, List, [], ◌∷◌, ◌++◌, count_by, refl, sym, ap, ◌∙◌, arith, append-nil, append_assoc}
use Rattle.std.specs.List.{flat_map, range_with_len}
use Rattle.std.specs.Int.{from_bool}
use Rattle.std.proofs.lemmas.List.Sums.{count_by-le-length, sum_by-append, sum_by-cons}
use Rattle.std.proofs.Math.Bool.{and_comm}
use mathlib.Core.Path.{fun_ext}
use Rattle.std.proofs.lemmas.List.FromFn.{length-range_with_len}
use Rattle.std.proofs.lemmas.Grind.{flat_map-append}
use Rattle.opt_model.specs.Quantities.{list_if, is_offered, has_order}
use Rattle.opt_model.specs.declared.records.Offer.{Offer}
use Rattle.opt_network.specs.Counts.{month_count, is_ordered}
use Rattle.opt_network.proofs.Once.{bit}

-- one more month
range-more : (a n : ℕ) → range_with_len a (n + 1) ≡ range_with_len a n ++ (a + n) ∷ []
range-more a zero = ap (λ k. k ∷ []) (omega arith)
range-more a (suc n) =
    let more : range_with_len (a + 1) (n + 1) ≡ range_with_len (a + 1) n ++ (a + suc n) ∷ [] = range-more (a + 1) n ∙ ap (λ k. range_with_len (a + 1) n ++ k ∷ []) (omega arith) in
    let next : suc n + 1 ≡ suc (n + 1) = omega arith in
    ap (range_with_len a) next ∙ ap (λ ks. a ∷ ks) more

from_bool-is : (b : Bool) → from_bool b ≡ bit b
from_bool-is true = refl
from_bool-is false = refl

pub month_count_more : (test : ℕ → Bool) (n : ℕ) → month_count (n + 1) test ≡ month_count n test + from_bool (test (n + 1))
month_count_more test n =
    let last : bit (test (1 + n)) ≡ bit (test (n + 1)) = ap (λ k. bit (test k)) (omega arith) in
    let split : count_by test (range_with_len 1 n ++ (1 + n) ∷ []) ≡ month_count n test + count_by test ((1 + n) ∷ []) = sum_by-append (λ k. bit (test k)) (range_with_len 1 n) ((1 + n) ∷ []) in
    let all : month_count (n + 1) test ≡ count_by test (range_with_len 1 n ++ (1 + n) ∷ []) = ap (count_by test) (range-more 1 n) in
    omega (arith, last, split, all, from_bool-is (test (n + 1)))

-- at most all of the months
pub month_count_few : (n : ℕ) (test : ℕ → Bool) → month_count n test ≤ n
month_count_few n test = omega (arith, count_by-le-length test (range_with_len 1 n), length-range_with_len 1 n)

-- a list made month by month, with one more month
pub over_months_more : {B : Type 0} (old : List B) (f : ℕ → List B) (n : ℕ) → (old ++ flat_map f (range_with_len 1 n)) ++ f (n + 1) ≡ old ++ flat_map f (range_with_len 1 (n + 1))
over_months_more old f n =
    append_assoc old (flat_map f (range_with_len 1 n)) (f (n + 1))
    ∙ ap (λ xs. old ++ xs)
    (ap (λ xs. flat_map f (range_with_len 1 n) ++ xs) (sym (append-nil (f (n + 1))) ∙ ap (λ k. f k ++ []) (omega arith))
    ∙ (sym (flat_map-append f (range_with_len 1 n) ((1 + n) ∷ [])) ∙ ap (flat_map f) (sym (range-more 1 n))))

pub month_step : {B : Type 0} (old now new : List B) (f : ℕ → List B) (n : ℕ) → now ≡ old ++ flat_map f (range_with_len 1 n) → new ≡ now ++ f (n + 1)
    → new ≡ old ++ flat_map f (range_with_len 1 (n + 1))
month_step old now new f n so_far more = more ∙ (ap (λ xs. xs ++ f (n + 1)) so_far ∙ over_months_more old f n)

-- the same where a quantity is added if a test holds
pub test_step : {B : Type 0} (old now new : List B) (test : ℕ → Bool) (mk : ℕ → B) (n : ℕ) (b : Bool) → b ≡ test (n + 1)
    → now ≡ old ++ flat_map (λ k. list_if (test k) (mk k ∷ [])) (range_with_len 1 n) → new ≡ now ++ list_if b (mk (n + 1) ∷ [])
    → new ≡ old ++ flat_map (λ k. list_if (test k) (mk k ∷ [])) (range_with_len 1 (n + 1))
test_step old now new test mk n b is so_far more =
    month_step old now new (λ k. list_if (test k) (mk k ∷ [])) n so_far (more ∙ ap (λ b. now ++ list_if b (mk (n + 1) ∷ [])) is)

-- ---- offers with a fee or a least lot
pub ordered_count : (offer : Offer) (n : ℕ) → month_count n (is_ordered offer) ≡ cond (has_order offer) (month_count n (is_offered offer)) 0
ordered_count offer n = by (has_order offer) 1 n
  where
    by : (b : Bool) (a n : ℕ) → count_by (λ k. is_offered offer k && b) (range_with_len a n) ≡ cond b (count_by (is_offered offer) (range_with_len a n)) 0
    by true a n = ap (λ test. count_by test (range_with_len a n)) (fun_ext (λ k. and_comm (is_offered offer k) true))
    by false a n = ap (λ test. count_by test (range_with_len a n)) (fun_ext (λ k. and_comm (is_offered offer k) false)) ∙ none a n
      where
        none : (a n : ℕ) → count_by (λ k. false) (range_with_len a n) ≡ 0
        none a zero = refl
        none a (suc n) = omega (arith, sum_by-cons (λ k. 0) a (range_with_len (a + 1) n), none (a + 1) n)
