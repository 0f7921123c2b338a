-- Greatest common divisors, and division by a common divisor.
use Rattle.std.proofs.Common.{◌≡◌, ◌≢◌, ℕ, zero, suc, ◌%◌, ◌<◌, List, [], ◌∷◌, ℤ, pos, negsuc, neg_ℤ, ◌*ℤ◌, ◌≤ℤ◌, unsigned_abs, All, refl, ap, sym, ◌∙◌, arith}
use Rattle.std.specs.Prelude.{int_div}
use Rattle.std.specs.Int.{IsGcd, ◌∣◌}
use Rattle.std.proofs.lemmas.Int.{ints, quot-rem}
use Rattle.std.proofs.lemmas.Nat.Gcd.{IsGcd-from_zero, IsGcd-from_mod, dvd_trans, dvd_refl, mod-eq-zero_of_dvd}
use Rattle.std.proofs.Math.Nat.{eq-zero_of_zero-dvd}
use Rattle.std.proofs.lemmas.List.Elements.{All-nil, All-cons, All-head, All-tail}
use Rattle.opt_sums.specs.Entries.{weighted_sum}
use Rattle.opt_sums.proofs.Ring.{mul_add, mul_assoc, mul_neg}
use Rattle.opt_frac.specs.Divisors.{gcd_within, gcd, gcd_with, quotients}
use Rattle.opt_frac.specs.Equations.{Equation, divisor_of, lowest}

-- ---- greatest common divisors
gcd_within-is : (steps a b : ℕ) → b < steps → IsGcd a b (gcd_within steps a b)
gcd_within-is zero a b h = absurd (omega arith)
gcd_within-is (suc steps) a zero h = IsGcd-from_zero a 0 refl
gcd_within-is (suc steps) a (suc b) h =
    IsGcd-from_mod a (suc b) (gcd_within steps (suc b) (a % suc b)) (gcd_within-is steps (suc b) (a % suc b) (omega arith))

pub gcd-is : (a b : ℕ) → IsGcd a b (gcd a b)
unfolding gcd
gcd-is a b = gcd_within-is (suc b) a b (omega arith)

-- a divisor of a number above 0 is above 0
pub divisor_positive : (d a : ℕ) → d ∣ a → 0 < a → 0 < d
divisor_positive zero a h k = let z : a ≡ 0 = eq-zero_of_zero-dvd h in omega arith
divisor_positive (suc d) a h k = omega arith

pub gcd_with-divides : (a : ℕ) (es : List (ℕ × ℤ)) → (gcd_with a es ∣ a) × All (λ e. gcd_with a es ∣ unsigned_abs e.1) es
gcd_with-divides a [] = (dvd_refl a, All-nil (λ e. a ∣ unsigned_abs e.1))
gcd_with-divides a (e ∷ es) =
    let more : (gcd_with (gcd a (unsigned_abs e.1)) es ∣ gcd a (unsigned_abs e.1)) × All (λ d. gcd_with (gcd a (unsigned_abs e.1)) es ∣ unsigned_abs d.1) es = gcd_with-divides (gcd a (unsigned_abs e.1)) es in
    let here : IsGcd a (unsigned_abs e.1) (gcd a (unsigned_abs e.1)) = gcd-is a (unsigned_abs e.1) in (
      dvd_trans (gcd_with (gcd a (unsigned_abs e.1)) es) more.0 here.0,
      All-cons (λ d. gcd_with (gcd a (unsigned_abs e.1)) es ∣ unsigned_abs d.1) e es (dvd_trans (gcd_with (gcd a (unsigned_abs e.1)) es) more.0 here.1) more.1,
    )

-- ---- exact quotients
pub exact : (z : ℤ) (d : ℕ) → d ∣ unsigned_abs z → pos d *ℤ int_div z (pos d) ≡ z
exact (pos a) d h =
    let none : a % d ≡ 0 = mod-eq-zero_of_dvd d h in
    omega (arith, ints, quot-rem (pos a) (pos d))
exact (negsuc a) d h =
    let none : suc a % d ≡ 0 = mod-eq-zero_of_dvd d h in
    omega (arith, ints, quot-rem (negsuc a) (pos d), ap (λ n. neg_ℤ (pos n)) none)

-- a factor of a number that is not 0 is not 0
pub quotient_not_zero : (a b c : ℤ) → a *ℤ b ≡ c → c ≢ pos 0 → b ≢ pos 0
quotient_not_zero a b c h k e = k (sym h ∙ ap (λ n. a *ℤ n) e ∙ omega (arith, ints))

-- a number whose product with one above 0 is above 0
pub quotient_positive : (d : ℕ) (b c : ℤ) → pos d *ℤ b ≡ c → pos 1 ≤ℤ c → pos 1 ≤ℤ b
quotient_positive d (pos zero) c h k = absurd (omega (arith, ints))
quotient_positive d (pos (suc n)) c h k = omega (arith, ints)
quotient_positive d (negsuc n) c h k = absurd (omega (arith, ints, mul_neg (pos d) (pos (suc n))))

pub weighted_sum-quotients : (d : ℕ) (es : List (ℕ × ℤ)) (f : ℕ → ℤ) → All (λ e. d ∣ unsigned_abs e.1) es → pos d *ℤ weighted_sum (quotients d es) f ≡ weighted_sum es f
weighted_sum-quotients d [] f h = omega (arith, ints)
weighted_sum-quotients d (e ∷ es) f h =
    let here : pos d *ℤ int_div e.1 (pos d) ≡ e.1 = exact e.1 d (All-head (λ a. d ∣ unsigned_abs a.1) e es h) in
    omega (
      arith,
      ints,
      weighted_sum-quotients d es f (All-tail (λ a. d ∣ unsigned_abs a.1) e es h),
      mul_add (pos d) (int_div e.1 (pos d) *ℤ f e.0) (weighted_sum (quotients d es) f),
      mul_assoc (pos d) (int_div e.1 (pos d)) (f e.0),
      ap (λ n. n *ℤ f e.0) here,
    )

-- ---- lowest terms
-- the second equation is the first, divided by d
pub record IsQuotient (d : ℕ) (old new : Equation) : Type 0 where
  pub divisor : 0 < d
  pub same_basic : new.basic ≡ old.basic
  pub lead : pos d *ℤ new.lead ≡ old.lead
  pub lead_positive : pos 1 ≤ℤ new.lead
  pub each : (f : ℕ → ℤ) → pos d *ℤ weighted_sum new.terms f ≡ weighted_sum old.terms f

pub lowest-is : (e : Equation) → pos 1 ≤ℤ e.lead → IsQuotient (divisor_of e) e (lowest e)
unfolding lowest
lowest-is e h =
    let divides : (divisor_of e ∣ unsigned_abs e.lead) × All (λ a. divisor_of e ∣ unsigned_abs a.1) e.terms = gcd_with-divides (unsigned_abs e.lead) e.terms in
    let quotient : pos (divisor_of e) *ℤ int_div e.lead (pos (divisor_of e)) ≡ e.lead = exact e.lead (divisor_of e) divides.0 in
    record {
      divisor = divisor_positive (divisor_of e) (unsigned_abs e.lead) divides.0 (omega (arith, ints));
      same_basic = refl;
      lead = quotient;
      lead_positive = quotient_positive (divisor_of e) (int_div e.lead (pos (divisor_of e))) e.lead quotient h;
      each = λ f. weighted_sum-quotients (divisor_of e) e.terms f divides.1;
    }
