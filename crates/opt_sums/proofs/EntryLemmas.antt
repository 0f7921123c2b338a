-- Laws of sparse entries: sums over them, their coefficients, double sums and sizes.
use Rattle.std.proofs.Common.{◌≡◌, ◌≢◌, ◌⊎◌, inl, inr, ℕ, zero, suc, ◌+◌, ◌*◌, ◌≤◌, ◌<◌, ◌==◌, if◌then◌else◌, List, [], ◌∷◌, ◌++◌, length, take, get_or, ℤ, pos, ◌+ℤ◌, ◌-ℤ◌, ◌*ℤ◌, ◌≤ℤ◌, unsigned_abs, All, refl, ap, sym, ◌∙◌, arith}
use Rattle.std.proofs.lemmas.Int.{ints}
use Rattle.std.proofs.lemmas.Bool.Decides.{nat_tests}
use Rattle.std.proofs.Math.Nat.{mul-le-mul_right}
use Rattle.std.proofs.lemmas.List.Elements.{All-head, All-tail}
use Rattle.opt_sums.specs.Sums.{sum_to}
use Rattle.opt_sums.specs.Entries.{coef, weighted_sum}
use Rattle.opt_sums.proofs.Ring.{mul_add, mul_sub, add_mul, mul_assoc, size_add}
use Rattle.opt_sums.proofs.SumLemmas.{sum_to-same, sum_to-add, sum_to-mul, sum_to-zero}

-- ---- sums over entries
pub weighted_sum-append : (es ds : List (ℕ × ℤ)) (f : ℕ → ℤ) → weighted_sum (es ++ ds) f ≡ weighted_sum es f +ℤ weighted_sum ds f
weighted_sum-append [] ds f = omega (arith, ints)
weighted_sum-append (e ∷ es) ds f = omega (arith, ints, weighted_sum-append es ds f)

-- one entry more
pub weighted_sum-take : (es : List (ℕ × ℤ)) (i : ℕ) (d : ℕ × ℤ) (f : ℕ → ℤ) → i < length es → weighted_sum (take (i + 1) es) f ≡ weighted_sum (take i es) f +ℤ (get_or es i d).1 *ℤ f (get_or es i d).0
weighted_sum-take [] i d f h = absurd (omega arith)
weighted_sum-take (e ∷ es) zero d f h = omega (arith, ints)
weighted_sum-take (e ∷ es) (suc i) d f h =
    let more : suc i + 1 ≡ suc (i + 1) = omega arith in
    rw more (omega (arith, ints, weighted_sum-take es i d f (omega arith)))

pub weighted_sum-same : (es : List (ℕ × ℤ)) (f g : ℕ → ℤ) → All (λ e. f e.0 ≡ g e.0) es → weighted_sum es f ≡ weighted_sum es g
weighted_sum-same [] f g h = refl
weighted_sum-same (e ∷ es) f g h =
    let here : e.1 *ℤ f e.0 ≡ e.1 *ℤ g e.0 = ap (λ n. e.1 *ℤ n) (All-head (λ e. f e.0 ≡ g e.0) e es h) in
    omega (arith, ints, weighted_sum-same es f g (All-tail (λ e. f e.0 ≡ g e.0) e es h))

pub weighted_sum-add : (es : List (ℕ × ℤ)) (f g : ℕ → ℤ) → weighted_sum es (λ k. f k +ℤ g k) ≡ weighted_sum es f +ℤ weighted_sum es g
weighted_sum-add [] f g = refl
weighted_sum-add (e ∷ es) f g = omega (arith, ints, weighted_sum-add es f g, mul_add e.1 (f e.0) (g e.0))

pub weighted_sum-sub : (es : List (ℕ × ℤ)) (f g : ℕ → ℤ) → weighted_sum es (λ k. f k -ℤ g k) ≡ weighted_sum es f -ℤ weighted_sum es g
weighted_sum-sub [] f g = refl
weighted_sum-sub (e ∷ es) f g = omega (arith, ints, weighted_sum-sub es f g, mul_sub e.1 (f e.0) (g e.0))

pub weighted_sum-zero : (es : List (ℕ × ℤ)) → weighted_sum es (λ _. pos 0) ≡ pos 0
weighted_sum-zero [] = refl
weighted_sum-zero (e ∷ es) = omega (arith, ints, weighted_sum-zero es)

-- ---- a coefficient at its own number and at another
pub same_or_other : (k j : ℕ) → (k ≡ j) ⊎ (k ≢ j)
same_or_other k j = grind arith

pub one_same : (k j : ℕ) (a : ℤ) → k ≡ j → (if k == j then a else pos 0) ≡ a
one_same k j a h = grind (arith, nat_tests)

pub one_other : (k j : ℕ) (a : ℤ) → k ≢ j → (if k == j then a else pos 0) ≡ pos 0
one_other k j a h = grind (arith, nat_tests)

-- a product with the coefficient of one entry, from either side
one_turned : (k j : ℕ) (a b : ℤ) → b *ℤ (if k == j then a else pos 0) ≡ a *ℤ (if j == k then b else pos 0)
one_turned k j a b =
    elim (same_or_other k j) [
      | inl h ↦ let p : k ≡ j = h in let q : j ≡ k = sym h in rw (one_same k j a p, one_same j k b q) (omega (arith, ints))
      | inr h ↦ let p : k ≢ j = h in let q : j ≢ k = λ e. h (sym e) in rw (one_other k j a p, one_other j k b q) (omega (arith, ints))
    ]

-- a sum over entries at a function that is 0 but at k
pub weighted_sum-one : (es : List (ℕ × ℤ)) (k : ℕ) (a : ℤ) → weighted_sum es (λ j. if k == j then a else pos 0) ≡ a *ℤ coef es k
weighted_sum-one [] k a = omega (arith, ints)
weighted_sum-one (e ∷ es) k a =
    omega (arith, ints, weighted_sum-one es k a, one_turned k e.0 a e.1, mul_add a (if e.0 == k then e.1 else pos 0) (coef es k))

-- rows against columns: each side is the sum of the products of the coefficients at the same number
pub weighted_sum-swap : (es ds : List (ℕ × ℤ)) → weighted_sum es (coef ds) ≡ weighted_sum ds (coef es)
weighted_sum-swap [] ds = sym (weighted_sum-zero ds)
weighted_sum-swap (e ∷ es) ds =
    omega (arith, ints, weighted_sum-add ds (λ j. if e.0 == j then e.1 else pos 0) (coef es), weighted_sum-one ds e.0 e.1, weighted_sum-swap es ds)

-- ---- coefficients
pub coef-append : (es ds : List (ℕ × ℤ)) (k : ℕ) → coef (es ++ ds) k ≡ coef es k +ℤ coef ds k
coef-append [] ds k = omega (arith, ints)
coef-append (e ∷ es) ds k = omega (arith, ints, coef-append es ds k)

-- a number at which no entry stands
pub coef-none : (es : List (ℕ × ℤ)) (k : ℕ) → All (λ e. e.0 ≢ k) es → coef es k ≡ pos 0
coef-none [] k h = refl
coef-none (e ∷ es) k h =
    omega (arith, ints, one_other e.0 k e.1 (All-head (λ d. d.0 ≢ k) e es h), coef-none es k (All-tail (λ d. d.0 ≢ k) e es h))

-- ---- double sums
-- the sum over the numbers below n of what one entry at k gives, where k is not below n
one_past : (n k : ℕ) (a : ℤ) (f : ℕ → ℤ) → n ≤ k → sum_to n (λ j. (if k == j then a else pos 0) *ℤ f j) ≡ pos 0
one_past n k a f h =
    sum_to-same n (λ j. (if k == j then a else pos 0) *ℤ f j) (λ _. pos 0) (λ j below. let apart : k ≢ j = omega arith in rw (one_other k j a apart) (omega (arith, ints)))
    ∙ sum_to-zero n

-- the same wherever k is, if f is 0 past n
one_to : (n k : ℕ) (a : ℤ) (f : ℕ → ℤ) → (n ≤ k → f k ≡ pos 0) → sum_to n (λ j. (if k == j then a else pos 0) *ℤ f j) ≡ a *ℤ f k
one_to zero k a f h = omega (arith, ints, ap (λ v. a *ℤ v) (h (omega arith)))
one_to (suc n) k a f h =
    elim (same_or_other k n) [
      | inl e ↦
          let p : k ≡ n = e in
          omega (arith, ints, one_past n k a f (omega arith), ap (λ v. v *ℤ f n) (one_same k n a p), ap (λ v. a *ℤ f v) p)
      | inr e ↦
          let p : k ≢ n = e in
          omega (arith, ints, one_to n k a f (λ q. h (omega arith)), ap (λ v. v *ℤ f n) (one_other k n a p))
    ]

-- the coefficients at the numbers below n say the whole sum, where f is 0 at the numbers of the other entries
pub sum_to-coef : (n : ℕ) (es : List (ℕ × ℤ)) (f : ℕ → ℤ) → ((k : ℕ) → n ≤ k → f k ≡ pos 0) → sum_to n (λ j. coef es j *ℤ f j) ≡ weighted_sum es f
sum_to-coef n [] f h =
    sum_to-same n (λ j. pos 0 *ℤ f j) (λ _. pos 0) (λ j _. omega (arith, ints)) ∙ sum_to-zero n
sum_to-coef n (e ∷ es) f h =
    sum_to-same n (λ j. ((if e.0 == j then e.1 else pos 0) +ℤ coef es j) *ℤ f j) (λ j. ((if e.0 == j then e.1 else pos 0) *ℤ f j) +ℤ (coef es j *ℤ f j)) (λ j _. add_mul (if e.0 == j then e.1 else pos 0) (coef es j) (f j))
    ∙ omega (arith, ints, sum_to-add n (λ j. (if e.0 == j then e.1 else pos 0) *ℤ f j) (λ j. coef es j *ℤ f j), one_to n e.0 e.1 f (h e.0), sum_to-coef n es f h)

-- a double sum, from either side
pub sum_to-exchange : (n : ℕ) (es : List (ℕ × ℤ)) (a : ℕ → ℕ → ℤ) → sum_to n (λ j. weighted_sum es (λ i. a i j)) ≡ weighted_sum es (λ i. sum_to n (a i))
sum_to-exchange n [] a = sum_to-zero n
sum_to-exchange n (e ∷ es) a =
    omega (arith, ints, sum_to-add n (λ j. e.1 *ℤ a e.0 j) (λ j. weighted_sum es (λ i. a i j)), sum_to-mul n e.1 (a e.0), sum_to-exchange n es a)

-- a factor goes into a sum over entries
pub weighted_sum-mul : (es : List (ℕ × ℤ)) (f : ℕ → ℤ) (b : ℤ) → weighted_sum es (λ k. f k *ℤ b) ≡ weighted_sum es f *ℤ b
weighted_sum-mul [] f b = omega (arith, ints)
weighted_sum-mul (e ∷ es) f b =
    omega (arith, ints, weighted_sum-mul es f b, mul_assoc e.1 (f e.0) b, add_mul (e.1 *ℤ f e.0) (weighted_sum es f) b)

-- a sum over entries of parts that are at most 0, or at least 0
pub weighted_sum-le : (es : List (ℕ × ℤ)) (f g : ℕ → ℤ) → All (λ e. (e.1 *ℤ f e.0) ≤ℤ (e.1 *ℤ g e.0)) es → weighted_sum es f ≤ℤ weighted_sum es g
weighted_sum-le [] f g h = omega (arith, ints)
weighted_sum-le (e ∷ es) f g h =
    let here : (e.1 *ℤ f e.0) ≤ℤ (e.1 *ℤ g e.0) = All-head (λ d. (d.1 *ℤ f d.0) ≤ℤ (d.1 *ℤ g d.0)) e es h in
    let rest : weighted_sum es f ≤ℤ weighted_sum es g = weighted_sum-le es f g (All-tail (λ d. (d.1 *ℤ f d.0) ≤ℤ (d.1 *ℤ g d.0)) e es h) in
    omega (arith, ints)

-- ---- sizes
-- the size of a sum over entries times a factor, from a bound on the size of each part times that factor
pub size_sum_over : (es : List (ℕ × ℤ)) (f : ℕ → ℤ) (factor most : ℕ) → All (λ e. unsigned_abs (e.1 *ℤ f e.0) * factor ≤ most) es → unsigned_abs (weighted_sum es f) * factor ≤ most * length es
size_sum_over [] f factor most h = omega arith
size_sum_over (e ∷ es) f factor most h =
    let here : unsigned_abs (e.1 *ℤ f e.0) * factor ≤ most = All-head (λ d. unsigned_abs (d.1 *ℤ f d.0) * factor ≤ most) e es h in
    let rest : unsigned_abs (weighted_sum es f) * factor ≤ most * length es = size_sum_over es f factor most (All-tail (λ d. unsigned_abs (d.1 *ℤ f d.0) * factor ≤ most) e es h) in
    let split : unsigned_abs ((e.1 *ℤ f e.0) +ℤ weighted_sum es f) * factor ≤ (unsigned_abs (e.1 *ℤ f e.0) + unsigned_abs (weighted_sum es f)) * factor = mul-le-mul_right factor (size_add (e.1 *ℤ f e.0) (weighted_sum es f)) in
    omega arith

-- the coefficient at k among one entry more
pub coef-take : (es : List (ℕ × ℤ)) (i : ℕ) (d : ℕ × ℤ) (k : ℕ) → i < length es → coef (take (i + 1) es) k ≡ coef (take i es) k +ℤ (if (get_or es i d).0 == k then (get_or es i d).1 else pos 0)
coef-take [] i d k h = absurd (omega arith)
coef-take (e ∷ es) zero d k h = omega (arith, ints)
coef-take (e ∷ es) (suc i) d k h =
    let more : suc i + 1 ≡ suc (i + 1) = omega arith in
    rw more (omega (arith, ints, coef-take es i d k (omega arith)))
