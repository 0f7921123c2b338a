-- Laws of sums over the numbers below a bound.
use Rattle.std.proofs.Common.{◌≡◌, ◌≢◌, ◌⊎◌, inl, inr, ℕ, zero, suc, ◌+◌, ◌*◌, ◌≤◌, ◌<◌, ℤ, pos, ◌+ℤ◌, ◌-ℤ◌, ◌*ℤ◌, ◌≤ℤ◌, unsigned_abs, refl, ap, arith}
use Rattle.std.proofs.lemmas.Int.{ints}
use Rattle.opt_sums.specs.Sums.{sum_to}
use Rattle.opt_sums.proofs.Ring.{mul_add, size_add}

-- one number more
pub sum_to-more : (n : ℕ) (f : ℕ → ℤ) → sum_to (n + 1) f ≡ sum_to n f +ℤ f n
sum_to-more n f = let e : n + 1 ≡ suc n = omega arith in rw e refl

pub sum_to-same : (n : ℕ) (f g : ℕ → ℤ) → ((j : ℕ) → j < n → f j ≡ g j) → sum_to n f ≡ sum_to n g
sum_to-same zero f g h = refl
sum_to-same (suc n) f g h =
    omega (arith, ints, sum_to-same n f g (λ j k. h j (omega arith)), h n (omega arith))

pub sum_to-add : (n : ℕ) (f g : ℕ → ℤ) → sum_to n (λ j. f j +ℤ g j) ≡ sum_to n f +ℤ sum_to n g
sum_to-add zero f g = refl
sum_to-add (suc n) f g = omega (arith, ints, sum_to-add n f g)

pub sum_to-sub : (n : ℕ) (f g : ℕ → ℤ) → sum_to n (λ j. f j -ℤ g j) ≡ sum_to n f -ℤ sum_to n g
sum_to-sub zero f g = refl
sum_to-sub (suc n) f g = omega (arith, ints, sum_to-sub n f g)

pub sum_to-mul : (n : ℕ) (a : ℤ) (f : ℕ → ℤ) → sum_to n (λ j. a *ℤ f j) ≡ a *ℤ sum_to n f
sum_to-mul zero a f = omega (arith, ints)
sum_to-mul (suc n) a f = omega (arith, ints, sum_to-mul n a f, mul_add a (sum_to n f) (f n))

pub sum_to-zero : (n : ℕ) → sum_to n (λ _. pos 0) ≡ pos 0
sum_to-zero zero = refl
sum_to-zero (suc n) = omega (arith, ints, sum_to-zero n)

pub sum_to-le : (n : ℕ) (f g : ℕ → ℤ) → ((j : ℕ) → j < n → f j ≤ℤ g j) → sum_to n f ≤ℤ sum_to n g
sum_to-le zero f g h = omega (arith, ints)
sum_to-le (suc n) f g h =
    let before : sum_to n f ≤ℤ sum_to n g = sum_to-le n f g (λ j k. h j (omega arith)) in
    let here : f n ≤ℤ g n = h n (omega arith) in
    omega (arith, ints)

-- a sum of which each part is at least 0
pub sum_to-not_negative : (n : ℕ) (f : ℕ → ℤ) → ((j : ℕ) → j < n → pos 0 ≤ℤ f j) → pos 0 ≤ℤ sum_to n f
sum_to-not_negative zero f h = omega (arith, ints)
sum_to-not_negative (suc n) f h =
    let before : pos 0 ≤ℤ sum_to n f = sum_to-not_negative n f (λ j k. h j (omega arith)) in
    let here : pos 0 ≤ℤ f n = h n (omega arith) in
    omega (arith, ints)

-- the size of a sum, from a bound on the size of each part
pub size_sum_to : (n : ℕ) (f : ℕ → ℤ) (most : ℕ) → ((j : ℕ) → j < n → unsigned_abs (f j) ≤ most) → unsigned_abs (sum_to n f) ≤ most * n
size_sum_to zero f most h = omega arith
size_sum_to (suc n) f most h =
    omega (arith, size_sum_to n f most (λ j k. h j (omega arith)), h n (omega arith), size_add (sum_to n f) (f n))

-- ---- sums of natural numbers, which bound the sizes of sums
-- the sum of f j over each j below n
abbrev pub total_to : ℕ → (ℕ → ℕ) → ℕ
total_to zero f = 0
total_to (suc n) f = total_to n f + f n

pub total_to-add : (n : ℕ) (f g : ℕ → ℕ) → total_to n (λ j. f j + g j) ≡ total_to n f + total_to n g
total_to-add zero f g = refl
total_to-add (suc n) f g = omega (arith, total_to-add n f g)

pub total_to-le : (n : ℕ) (f g : ℕ → ℕ) → ((j : ℕ) → j < n → f j ≤ g j) → total_to n f ≤ total_to n g
total_to-le zero f g h = omega arith
total_to-le (suc n) f g h = omega (arith, total_to-le n f g (λ j k. h j (omega arith)), h n (omega arith))

pub total_to-same : (n : ℕ) (f g : ℕ → ℕ) → ((j : ℕ) → j < n → f j ≡ g j) → total_to n f ≡ total_to n g
total_to-same zero f g h = refl
total_to-same (suc n) f g h = omega (arith, total_to-same n f g (λ j k. h j (omega arith)), h n (omega arith))

pub total_to-constant : (n a : ℕ) → total_to n (λ _. a) ≡ a * n
total_to-constant zero a = omega arith
total_to-constant (suc n) a = omega (arith, total_to-constant n a)

-- a longer sum is no smaller
pub total_to-more : (k n : ℕ) (f : ℕ → ℕ) → k ≤ n → total_to k f ≤ total_to n f
total_to-more k zero f h = let e : k ≡ zero = omega arith in rw e (omega arith)
total_to-more k (suc n) f h =
    elim (le_or_same k n h) [
      | inl before ↦ omega (arith, total_to-more k n f before)
      | inr same ↦ rw same (omega arith)
    ]
  where
    le_or_same : (k n : ℕ) → k ≤ suc n → (k ≤ n) ⊎ (k ≡ suc n)
    le_or_same k n h = grind arith

-- a sum that is at most 1 at one number and 0 at the others
pub total_to-one : (n k : ℕ) (f : ℕ → ℕ) → f k ≤ 1 → ((j : ℕ) → j ≢ k → f j ≡ 0) → total_to n f ≤ 1
total_to-one n k f here others = omega (arith, (one_or_none n k f here others).0)
  where
    either : (n k : ℕ) → (n ≡ k) ⊎ (n ≢ k)
    either n k = grind arith

    one_or_none : (n k : ℕ) (f : ℕ → ℕ) → f k ≤ 1 → ((j : ℕ) → j ≢ k → f j ≡ 0) → (total_to n f ≤ 1) × (n ≤ k → total_to n f ≡ 0)
    one_or_none zero k f here others = (omega arith, λ _. refl)
    one_or_none (suc n) k f here others =
        let before : (total_to n f ≤ 1) × (n ≤ k → total_to n f ≡ 0) = one_or_none n k f here others in (
          elim (either n k) [
            | inl same ↦
                let e : n ≡ k = same in
                omega (arith, before.1 (omega arith), ap f e)
            | inr apart ↦ omega (arith, before.0, others n apart)
          ],
          λ h. let apart : n ≢ k = omega arith in omega (arith, before.1 (omega arith), others n apart),
        )

-- the size of a sum, from bounds that differ from part to part
pub size_sum_to-by : (n : ℕ) (f : ℕ → ℤ) (most : ℕ) (g : ℕ → ℕ) → ((j : ℕ) → j < n → unsigned_abs (f j) ≤ most * g j) → unsigned_abs (sum_to n f) ≤ most * total_to n g
size_sum_to-by zero f most g h = omega arith
size_sum_to-by (suc n) f most g h =
    omega (arith, size_sum_to-by n f most g (λ j k. h j (omega arith)), h n (omega arith), size_add (sum_to n f) (f n))

-- a part is no greater than the sum
pub total_to-part : (n j : ℕ) (f : ℕ → ℕ) → j < n → f j ≤ total_to n f
total_to-part n j f h =
    let e : j + 1 ≡ suc j = omega arith in
    omega (arith, total_to-more (suc j) n f (omega arith))
