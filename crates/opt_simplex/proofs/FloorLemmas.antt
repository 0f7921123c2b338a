-- Fractions that are not whole: the first of a list, and where their floors lie.
use Rattle.std.proofs.Common.{◌≡◌, ◌≢◌, ◌⊎◌, inl, inr, ℕ, ◌<◌, ◌≤◌, Bool, true, false, cond, not, Some, None, List, length, ℤ, pos, negsuc, ◌+ℤ◌, ◌*ℤ◌, ◌≤ℤ◌, ◌<ℤ◌, nat_lt, subst, ◌∙◌, arith}
use Rattle.std.specs.List.{position_or_len}
use Rattle.std.specs.Ordering.{int_eq}
use Rattle.std.specs.Int.{int_div_euclid, int_rem_euclid}
use Rattle.std.proofs.lemmas.Int.{ints}
use Rattle.std.proofs.lemmas.List.Sums.{position_or_len_is, passes_at_first}
use Rattle.std.proofs.lemmas.Bool.Decides.{Decides-int_eq, nat_tests}
use Rattle.opt_sums.proofs.Ring.{mul_add, mul_le}
use Rattle.opt_frac.proofs.Steps.{mul_comm, mul_swap}
use Rattle.opt_simplex.specs.Soundness.{fraction_at}
use Rattle.opt_simplex.specs.Guide.{is_fractional, floor_of, first_fractional}

-- ---- the first one
some_at : (n i l : ℕ) → n ≡ i → i < l → cond (nat_lt n l) (Some n) None ≡ Some i
some_at n i l e h = grind (arith, nat_tests)

none_at : (n l : ℕ) → n ≡ l → cond (nat_lt n l) (Some n) None ≡ None
none_at n l e = grind (arith, nat_tests)

pub first_fractional-some : (fs : List (ℤ × ℤ)) (i : ℕ) → i < length fs → ((k : ℕ) → k < i → is_fractional (fraction_at fs k) ≡ false) → is_fractional (fraction_at fs i) ≡ true → first_fractional fs ≡ Some i
first_fractional-some fs i inside before here =
    some_at (position_or_len is_fractional fs) i (length fs)
    (position_or_len_is is_fractional fs i (pos 0, pos 1) (omega arith) before (λ h. here))
    inside

pub first_fractional-none : (fs : List (ℤ × ℤ)) → ((k : ℕ) → k < length fs → is_fractional (fraction_at fs k) ≡ false) → first_fractional fs ≡ None
first_fractional-none fs before =
    none_at (position_or_len is_fractional fs) (length fs)
    (position_or_len_is is_fractional fs (length fs) (pos 0, pos 1) (omega arith) before (λ h. absurd (omega arith)))

-- what is the first one is within the list, and is not whole
pub first_fractional-means : (fs : List (ℤ × ℤ)) (i : ℕ) → first_fractional fs ≡ Some i → (i < length fs) × (is_fractional (fraction_at fs i) ≡ true)
first_fractional-means fs i e =
    elim (below_or_not (position_or_len is_fractional fs) (length fs)) [
      | inl h ↦
          let same : position_or_len is_fractional fs ≡ i = one (position_or_len is_fractional fs) i (length fs) h e in
          subst (λ (n : ℕ). (n < length fs) × (is_fractional (fraction_at fs n) ≡ true)) same
          (h, passes_at_first is_fractional fs (pos 0, pos 1) h)
      | inr h ↦ absurd (none_past (position_or_len is_fractional fs) i (length fs) h e)
    ]
  where
    below_or_not : (n l : ℕ) → (n < l) ⊎ (l ≤ n)
    below_or_not n l = grind arith

    one : (n i l : ℕ) → n < l → cond (nat_lt n l) (Some n) None ≡ Some i → n ≡ i
    one n i l h e = grind (arith, nat_tests)

    none_past : (n i l : ℕ) → l ≤ n → cond (nat_lt n l) (Some n) None ≡ Some i → ⊥
    none_past n i l h e = grind (arith, nat_tests)

-- ---- where floors lie
-- a number is its quotient times the divisor and a remainder below it
pub record AreParts (a d : ℤ) : Type 0 where
  pub parts : a ≡ (d *ℤ int_div_euclid a d) +ℤ int_rem_euclid a d
  pub from_zero : pos 0 ≤ℤ int_rem_euclid a d
  pub below : int_rem_euclid a d <ℤ d

pub parts_of : (a d : ℤ) → pos 1 ≤ℤ d → AreParts a d
parts_of (pos n) (pos k) h = record { parts = omega (arith, ints); from_zero = omega (arith, ints); below = omega (arith, ints) }
parts_of (negsuc n) (pos k) h = record { parts = omega (arith, ints); from_zero = omega (arith, ints); below = omega (arith, ints) }
parts_of a (negsuc k) h = absurd (omega (arith, ints))

-- a factor of at least 1 may be left out
pub mul_le-cancel : (s b c : ℤ) → pos 1 ≤ℤ s → (s *ℤ b) ≤ℤ (s *ℤ c) → b ≤ℤ c
mul_le-cancel s b c h k =
    elim (most_or_above b c) [
      | inl most ↦ most
      | inr above ↦
          let p : (s *ℤ (c +ℤ pos 1)) ≤ℤ (s *ℤ b) = mul_le s (c +ℤ pos 1) b (omega (arith, ints)) above in
          let q : s *ℤ (c +ℤ pos 1) ≡ (s *ℤ c) +ℤ (s *ℤ pos 1) = mul_add s c (pos 1) in
          let one : s *ℤ pos 1 ≡ s = omega (arith, ints) in
          absurd (omega (arith, ints))
    ]
  where
    most_or_above : (b c : ℤ) → (b ≤ℤ c) ⊎ ((c +ℤ pos 1) ≤ℤ b)
    most_or_above b c = grind (arith, ints)

-- the floor of a number over d is at least each whole number that d times is at most the number
floor-least : (a d low : ℤ) → pos 1 ≤ℤ d → (d *ℤ low) ≤ℤ a → low ≤ℤ int_div_euclid a d
floor-least a d low h k =
    elim (most_or_above low (int_div_euclid a d)) [
      | inl most ↦ most
      | inr above ↦
          let q : ℤ = int_div_euclid a d in
          let are : AreParts a d = parts_of a d h in
          let p : (d *ℤ (q +ℤ pos 1)) ≤ℤ (d *ℤ low) = mul_le d (q +ℤ pos 1) low (omega (arith, ints)) above in
          let more : d *ℤ (q +ℤ pos 1) ≡ (d *ℤ q) +ℤ (d *ℤ pos 1) = mul_add d q (pos 1) in
          let one : d *ℤ pos 1 ≡ d = omega (arith, ints) in
          absurd (omega (arith, ints, are.parts, are.below))
    ]
  where
    most_or_above : (b c : ℤ) → (b ≤ℤ c) ⊎ ((c +ℤ pos 1) ≤ℤ b)
    most_or_above b c = grind (arith, ints)

-- it is at most each whole number that d times is at least the number, and less where the fraction is not whole
floor-most : (a d high : ℤ) → pos 1 ≤ℤ d → a ≤ℤ (d *ℤ high) → int_div_euclid a d ≤ℤ high
floor-most a d high h k =
    let are : AreParts a d = parts_of a d h in
    mul_le-cancel d (int_div_euclid a d) high h (omega (arith, ints, are.parts, are.from_zero))

floor-below : (a d high : ℤ) → pos 1 ≤ℤ d → a ≤ℤ (d *ℤ high) → int_rem_euclid a d ≢ pos 0 → int_div_euclid a d <ℤ high
floor-below a d high h k apart =
    let are : AreParts a d = parts_of a d h in
    elim (below_or_least (int_div_euclid a d) high) [
      | inl below ↦ below
      | inr least ↦
          let p : (d *ℤ high) ≤ℤ (d *ℤ int_div_euclid a d) = mul_le d high (int_div_euclid a d) (omega (arith, ints)) least in
          absurd (apart (omega (arith, ints, are.parts, are.from_zero)))
    ]
  where
    below_or_least : (b c : ℤ) → (b <ℤ c) ⊎ (c ≤ℤ b)
    below_or_least b c = grind (arith, ints)

-- a fraction whose value times the scale is x, from scale times low to scale times high
pub record IsBetween (f : ℤ × ℤ) (scale x low high : ℤ) : Type 0 where
  pub denominator : pos 1 ≤ℤ f.1
  pub scale_positive : pos 1 ≤ℤ scale
  pub equal : (x *ℤ f.1) ≡ (scale *ℤ f.0)
  pub above : (scale *ℤ low) ≤ℤ x
  pub below : x ≤ℤ (scale *ℤ high)

least_of : (f : ℤ × ℤ) (scale x low high : ℤ) → IsBetween f scale x low high → (f.1 *ℤ low) ≤ℤ f.0
least_of f scale x low high b =
    let p : (f.1 *ℤ (scale *ℤ low)) ≤ℤ (f.1 *ℤ x) = mul_le f.1 (scale *ℤ low) x (omega (arith, ints, b.denominator)) b.above in
    mul_le-cancel scale (f.1 *ℤ low) f.0 b.scale_positive
    (subst (λ (n : ℤ). (scale *ℤ (f.1 *ℤ low)) ≤ℤ n) (mul_comm f.1 x ∙ b.equal) (subst (λ (n : ℤ). n ≤ℤ (f.1 *ℤ x)) (mul_swap f.1 scale low) p))

most_of : (f : ℤ × ℤ) (scale x low high : ℤ) → IsBetween f scale x low high → f.0 ≤ℤ (f.1 *ℤ high)
most_of f scale x low high b =
    let p : (f.1 *ℤ x) ≤ℤ (f.1 *ℤ (scale *ℤ high)) = mul_le f.1 x (scale *ℤ high) (omega (arith, ints, b.denominator)) b.below in
    mul_le-cancel scale f.0 (f.1 *ℤ high) b.scale_positive
    (subst (λ (n : ℤ). n ≤ℤ (scale *ℤ (f.1 *ℤ high))) (mul_comm f.1 x ∙ b.equal) (subst (λ (n : ℤ). (f.1 *ℤ x) ≤ℤ n) (mul_swap f.1 scale high) p))

pub floor_of-least : (f : ℤ × ℤ) (scale x low high : ℤ) → IsBetween f scale x low high → low ≤ℤ floor_of f
floor_of-least f scale x low high b = floor-least f.0 f.1 low b.denominator (least_of f scale x low high b)

pub floor_of-most : (f : ℤ × ℤ) (scale x low high : ℤ) → IsBetween f scale x low high → floor_of f ≤ℤ high
floor_of-most f scale x low high b = floor-most f.0 f.1 high b.denominator (most_of f scale x low high b)

apart_of : (z : ℤ) → not (int_eq z (pos 0)) ≡ true → z ≢ pos 0
apart_of z h e = not_both (int_eq z (pos 0)) h ((Decides-int_eq z (pos 0)).1 e)
  where
    not_both : (b : Bool) → not b ≡ true → b ≡ true → ⊥
    not_both true h k = cc
    not_both false h k = cc

pub floor_of-below : (f : ℤ × ℤ) (scale x low high : ℤ) → IsBetween f scale x low high → is_fractional f ≡ true → floor_of f <ℤ high
floor_of-below f scale x low high b h = floor-below f.0 f.1 high b.denominator (most_of f scale x low high b) (apart_of (int_rem_euclid f.0 f.1) h)
