-- Entries whose numbers rise: what their coefficients are, how many they are, and how much they take of a whole list.
use Rattle.std.proofs.Common.{◌≡◌, ◌≢◌, ℕ, zero, suc, ◌+◌, ◌-◌, ◌*◌, ◌≤◌, ◌<◌, List, [], ◌∷◌, length, drop, get_or, ℤ, pos, ◌*ℤ◌, unsigned_abs, All, sum_by, refl, ap, arith, take, inl, inr}
use Rattle.std.proofs.lemmas.Int.{ints}
use Rattle.std.proofs.Math.Nat.{mul-le-mul_right}
use Rattle.std.proofs.Math.Seq.{drop-cons, drop-nil, drop-drop}
use Rattle.std.proofs.lemmas.List.Elements.{All-head, All-tail, All-weaker}
use Rattle.std.proofs.lemmas.List.Sums.{sum_by-cons, sum_by-append}
use Rattle.opt_sums.specs.Entries.{coef, weighted_sum, IsRising, AllBelow}
use Rattle.opt_sums.proofs.Ring.{size_add, size_mul}
use Rattle.std.proofs.Math.ListN.{length-take}
use Rattle.std.proofs.lemmas.List.{get_or_default, get_or-take, take-append-drop}
use Rattle.opt_sums.proofs.EntryLemmas.{same_or_other, one_same, one_other, coef-none}

pub IsRising-tail : (e : ℕ × ℤ) (es : List (ℕ × ℤ)) → IsRising (e ∷ es) → IsRising es
IsRising-tail e es rising i j d h k = rising (suc i) (suc j) d (omega arith) (omega arith)

pub IsRising-head : (e : ℕ × ℤ) (es : List (ℕ × ℤ)) → IsRising (e ∷ es) → All (λ d. e.0 < d.0) es
IsRising-head e es rising k d h = rising 0 (suc k) d (omega arith) (omega arith)

-- at the number of an entry the coefficient is that entry's
pub coef-get_or : (es : List (ℕ × ℤ)) (i : ℕ) (d : ℕ × ℤ) → IsRising es → i < length es → coef es (get_or es i d).0 ≡ (get_or es i d).1
coef-get_or [] i d rising h = absurd (omega arith)
coef-get_or (e ∷ es) zero d rising h =
    let apart : All (λ a. a.0 ≢ e.0) es = All-weaker (λ a. e.0 < a.0) (λ a. a.0 ≢ e.0) (λ a below. omega arith) es (IsRising-head e es rising) in
    omega (arith, ints, one_same e.0 e.0 e.1 refl, coef-none es e.0 apart)
coef-get_or (e ∷ es) (suc i) d rising h =
    let below : e.0 < (get_or es i d).0 = IsRising-head e es rising i d (omega arith) in
    let apart : e.0 ≢ (get_or es i d).0 = omega arith in
    omega (arith, ints, one_other e.0 (get_or es i d).0 e.1 apart, coef-get_or es i d (IsRising-tail e es rising) (omega arith))

-- from low up to n there is room for no more entries than numbers
length-within : (low n : ℕ) (es : List (ℕ × ℤ)) → IsRising es → All (λ e. low ≤ e.0) es → AllBelow n es → length es ≤ n - low
length-within low n [] rising from below = omega arith
length-within low n (e ∷ es) rising from below =
    let first : low ≤ e.0 = All-head (λ a. low ≤ a.0) e es from in
    let last : e.0 < n = All-head (λ a. a.0 < n) e es below in
    let rest : length es ≤ n - (e.0 + 1) =
    length-within (e.0 + 1) n es (IsRising-tail e es rising) (All-weaker (λ a. e.0 < a.0) (λ a. e.0 + 1 ≤ a.0) (λ a h. omega arith) es (IsRising-head e es rising)) (All-tail (λ a. a.0 < n) e es below)
    in
    omega arith

-- rising numbers below n are at most n
pub length-rising : (n : ℕ) (es : List (ℕ × ℤ)) → IsRising es → AllBelow n es → length es ≤ n
length-rising n es rising below = omega (arith, length-within 0 n es rising (λ _ _ _. omega arith) below)

sum_by-drop_le : {X : Type 0} (f : X → ℕ) (xs : List X) (k : ℕ) → sum_by f (drop k xs) ≤ sum_by f xs
sum_by-drop_le {X} f [] k = omega (arith, ap (sum_by f) (drop-nil {A = X} k))
sum_by-drop_le f (x ∷ xs) zero = omega arith
sum_by-drop_le f (x ∷ xs) (suc k) = omega (arith, sum_by-cons f x xs, sum_by-drop_le f xs k)

sum_by-drop_more : {X : Type 0} (f : X → ℕ) (xs : List X) (low k : ℕ) → low ≤ k → sum_by f (drop k xs) ≤ sum_by f (drop low xs)
sum_by-drop_more {X} f xs low k h =
    omega (arith, ap (λ n. sum_by f (drop n xs)) (plus k low h), ap (sum_by f) (drop-drop (k - low) low xs), sum_by-drop_le f (drop low xs) (k - low))
  where
    plus : (k low : ℕ) → low ≤ k → k ≡ low + (k - low)
    plus k low h = omega arith

-- rising entries take each element of a list at most once
sum_by-within : {X : Type 0} (f : X → ℕ) (xs : List X) (x : X) (low : ℕ) (es : List (ℕ × ℤ)) → IsRising es → All (λ e. low ≤ e.0) es → AllBelow (length xs) es → sum_by (λ e. f (get_or xs e.0 x)) es ≤ sum_by f (drop low xs)
sum_by-within f xs x low [] rising from below = omega arith
sum_by-within f xs x low (e ∷ es) rising from below =
    let first : low ≤ e.0 = All-head (λ a. low ≤ a.0) e es from in
    let last : e.0 < length xs = All-head (λ a. a.0 < length xs) e es below in
    let rest : sum_by (λ a. f (get_or xs a.0 x)) es ≤ sum_by f (drop (suc e.0) xs) =
    sum_by-within f xs x (suc e.0) es (IsRising-tail e es rising) (All-weaker (λ a. e.0 < a.0) (λ a. suc e.0 ≤ a.0) (λ a h. omega arith) es (IsRising-head e es rising)) (All-tail (λ a. a.0 < length xs) e es below)
    in
    omega (arith, sum_by-cons (λ a. f (get_or xs a.0 x)) e es, sum_by-drop_more f xs low e.0 first, ap (sum_by f) (drop-cons xs e.0 x last), sum_by-cons f (get_or xs e.0 x) (drop (suc e.0) xs))

pub sum_by-rising : {X : Type 0} (f : X → ℕ) (xs : List X) (x : X) (es : List (ℕ × ℤ)) → IsRising es → AllBelow (length xs) es → sum_by (λ e. f (get_or xs e.0 x)) es ≤ sum_by f xs
sum_by-rising f xs x es rising below = sum_by-within f xs x 0 es rising (λ _ _ _. omega arith) below

-- the size of a sum over entries whose coefficients are bounded
pub size_sum_over-most : (es : List (ℕ × ℤ)) (f : ℕ → ℤ) (most : ℕ) → All (λ e. unsigned_abs e.1 ≤ most) es → unsigned_abs (weighted_sum es f) ≤ most * sum_by (λ e. unsigned_abs (f e.0)) es
size_sum_over-most [] f most h = omega arith
size_sum_over-most (e ∷ es) f most h =
    let here : unsigned_abs e.1 * unsigned_abs (f e.0) ≤ most * unsigned_abs (f e.0) = mul-le-mul_right (unsigned_abs (f e.0)) (All-head (λ d. unsigned_abs d.1 ≤ most) e es h) in
    omega (arith, size_add (e.1 *ℤ f e.0) (weighted_sum es f), size_mul e.1 (f e.0), ap (λ n. most * n) (sum_by-cons (λ d. unsigned_abs (f d.0)) e es), size_sum_over-most es f most (All-tail (λ d. unsigned_abs d.1 ≤ most) e es h))

-- a coefficient of rising entries is that of one entry, or 0
pub size_coef : (es : List (ℕ × ℤ)) (k most : ℕ) → IsRising es → All (λ e. unsigned_abs e.1 ≤ most) es → unsigned_abs (coef es k) ≤ most
size_coef [] k most rising small = omega arith
size_coef (e ∷ es) k most rising small =
    elim (same_or_other e.0 k) [
      | inl h ↦
          let p : e.0 ≡ k = h in
          let apart : All (λ a. a.0 ≢ k) es = All-weaker (λ a. e.0 < a.0) (λ a. a.0 ≢ k) (λ a below. omega arith) es (IsRising-head e es rising) in
          omega (arith, ints, one_same e.0 k e.1 p, coef-none es k apart, All-head (λ d. unsigned_abs d.1 ≤ most) e es small)
      | inr h ↦
          let p : e.0 ≢ k = h in
          omega (arith, ints, one_other e.0 k e.1 p, size_coef es k most (IsRising-tail e es rising) (All-tail (λ d. unsigned_abs d.1 ≤ most) e es small))
    ]

-- no number is above that of the last entry
pub rising_last : (es : List (ℕ × ℤ)) (k : ℕ) (d : ℕ × ℤ) → IsRising es → k < length es → (get_or es k d).0 ≤ (get_or es (length es - 1) d).0
rising_last es k d rising h =
    elim (same_or_other k (length es - 1)) [
      | inl e ↦ let p : k ≡ length es - 1 = e in omega (arith, ap (λ n. (get_or es n d).0) p)
      | inr e ↦ let p : k ≢ length es - 1 = e in omega (arith, rising k (length es - 1) d (omega arith) (omega arith))
    ]

-- at the number of an entry the entries before it have no coefficient
pub coef-take_before : (es : List (ℕ × ℤ)) (i : ℕ) (d : ℕ × ℤ) → IsRising es → i < length es → coef (take i es) (get_or es i d).0 ≡ pos 0
coef-take_before es i d rising h =
    coef-none (take i es) (get_or es i d).0
    (λ k x below.
    let short : length (take i es) ≤ i = omega (arith, length-take i es) in
    let in_es : k < i = omega arith in
    let here : (get_or es k x).0 < (get_or es i x).0 = rising k i x in_es h in
    omega (arith, ap (λ (e : ℕ × ℤ). e.0) (get_or-take i es k x in_es), ap (λ (e : ℕ × ℤ). e.0) (get_or_default es i x d h)))

-- a part of a list sums to no more than the whole
pub sum_by-take_le : {X : Type 0} (f : X → ℕ) (xs : List X) (k : ℕ) → sum_by f (take k xs) ≤ sum_by f xs
sum_by-take_le f xs k =
    omega (arith, ap (sum_by f) (take-append-drop k xs), sum_by-append f (take k xs) (drop k xs))

pub IsRising-nil : IsRising []
IsRising-nil i j d h k = absurd (omega arith)

pub IsRising-cons : (e : ℕ × ℤ) (es : List (ℕ × ℤ)) → All (λ d. e.0 < d.0) es → IsRising es → IsRising (e ∷ es)
IsRising-cons e es above rising zero zero d h k = absurd (omega arith)
IsRising-cons e es above rising zero (suc j) d h k = above j d (omega arith)
IsRising-cons e es above rising (suc i) zero d h k = absurd (omega arith)
IsRising-cons e es above rising (suc i) (suc j) d h k = rising i j d (omega arith) (omega arith)

-- the first i numbers rise, and the next is above the last of them
pub rising_more : (es : List (ℕ × ℤ)) (i : ℕ) (c : ℕ × ℤ) → 1 ≤ i → i < length es → ((k j : ℕ) (d : ℕ × ℤ) → k < j → j < i → (get_or es k d).0 < (get_or es j d).0) → (get_or es (i - 1) c).0 < (get_or es i c).0 → (k j : ℕ) (d : ℕ × ℤ) → k < j → j < i + 1 → (get_or es k d).0 < (get_or es j d).0
rising_more es i c from inside rising next k j d below upto =
    let before : (get_or es (i - 1) d).0 ≡ (get_or es (i - 1) c).0 = ap (λ (e : ℕ × ℤ). e.0) (get_or_default es (i - 1) d c (omega arith)) in
    let here : (get_or es i d).0 ≡ (get_or es i c).0 = ap (λ (e : ℕ × ℤ). e.0) (get_or_default es i d c inside) in
    elim (same_or_other j i) [
      | inl e ↦
          let last : j ≡ i = e in
          elim (same_or_other k (i - 1)) [
            | inl f ↦
                let prior : k ≡ i - 1 = f in
                omega (arith, ap (λ n. (get_or es n d).0) prior, ap (λ n. (get_or es n d).0) last)
            | inr f ↦
                let earlier : k ≢ i - 1 = f in
                omega (arith, rising k (i - 1) d (omega arith) (omega arith), ap (λ n. (get_or es n d).0) last)
          ]
      | inr e ↦
          let earlier : j ≢ i = e in
          rising k j d below (omega arith)
    ]
