-- The ratio test keeps the sign of each cost, whichever end its variable rests at.
use Rattle.std.proofs.Common.{◌≡◌, inl, inr, ℕ, zero, suc, ◌*◌, ◌≤◌, Bool, true, false, not, ℤ, pos, negsuc, neg_ℤ, ◌+ℤ◌, ◌*ℤ◌, ◌≤ℤ◌, ◌<ℤ◌, unsigned_abs, refl, ap, sym, ◌∙◌, arith}
use Rattle.std.specs.Int.{is_positive, is_negative}
use Rattle.std.proofs.lemmas.Int.{ints}
use Rattle.std.proofs.lemmas.Bool.{lt-ltb, cases_Bool}
use Rattle.opt_sums.proofs.Ring.{mul_neg, neg_mul, mul_le, size_mul}
use Rattle.opt_frac.proofs.Steps.{sign_turned}
use Rattle.opt_simplex.specs.Choice.{can_help}

-- with the sign changed where the variable rests at its high
abbrev pub signed : Bool → ℤ → ℤ
signed true z = neg_ℤ z
signed false z = z

pub positive_is : (z : ℤ) → is_positive z ≡ true → pos 0 <ℤ z
positive_is z h = grind (arith, ints)

pub not_positive_is : (z : ℤ) → is_positive z ≡ false → z ≤ℤ pos 0
not_positive_is z h = grind (arith, ints)

pub negative_is : (z : ℤ) → is_negative z ≡ true → z <ℤ pos 0
negative_is z h = grind (arith, ints)

pub not_negative_is : (z : ℤ) → is_negative z ≡ false → pos 0 ≤ℤ z
not_negative_is z h = grind (arith, ints)

turned_positive : (c z : ℤ) → pos 0 <ℤ c → sign_turned c z ≡ neg_ℤ z
turned_positive (pos zero) z h = absurd (omega (arith, ints))
turned_positive (pos (suc n)) z h = rw (lt-ltb 0 (suc n) (omega arith)) refl
turned_positive (negsuc n) z h = absurd (omega (arith, ints))

turned_negative : (c z : ℤ) → c <ℤ pos 0 → sign_turned c z ≡ z
turned_negative (pos n) z h = absurd (omega (arith, ints))
turned_negative (negsuc n) z h = refl

size_up : (z : ℤ) → pos 0 ≤ℤ z → pos (unsigned_abs z) ≡ z
size_up (pos n) h = refl
size_up (negsuc n) h = absurd (omega (arith, ints))

size_down : (z : ℤ) → z ≤ℤ pos 0 → pos (unsigned_abs z) ≡ neg_ℤ z
size_down (pos zero) h = refl
size_down (pos (suc n)) h = absurd (omega (arith, ints))
size_down (negsuc n) h = refl

-- the entering cost times a turned coefficient is its size times the coefficient, with the direction's sign
pub turned_cost : (below high : Bool) (coefficient cost e : ℤ) → can_help below high coefficient ≡ true → pos 0 ≤ℤ signed high cost
    → cost *ℤ sign_turned coefficient e ≡ signed below (pos (unsigned_abs cost) *ℤ e)
turned_cost true false coefficient cost e h s =
    ap (λ n. cost *ℤ n) (turned_positive coefficient e (positive_is coefficient h)) ∙ mul_neg cost e ∙ ap (λ n. neg_ℤ (n *ℤ e)) (sym (size_up cost s))
turned_cost true true coefficient cost e h s =
    let down : pos (unsigned_abs cost) ≡ neg_ℤ cost = size_down cost (omega (arith, ints)) in
    ap (λ n. cost *ℤ n) (turned_negative coefficient e (negative_is coefficient h)) ∙ omega (arith, ints, ap (λ n. n *ℤ e) down, neg_mul cost e)
turned_cost false false coefficient cost e h s =
    ap (λ n. cost *ℤ n) (turned_negative coefficient e (negative_is coefficient h)) ∙ ap (λ n. n *ℤ e) (sym (size_up cost s))
turned_cost false true coefficient cost e h s =
    let down : pos (unsigned_abs cost) ≡ neg_ℤ cost = size_down cost (omega (arith, ints)) in
    ap (λ n. cost *ℤ n) (turned_positive coefficient e (positive_is coefficient h))
    ∙ omega (arith, ints, ap (λ n. n *ℤ e) down, neg_mul cost e, mul_neg cost e)

-- a coefficient that cannot help only adds to the cost
helps_not : (below high : Bool) (size : ℕ) (e : ℤ) → can_help below high e ≡ false → pos 0 ≤ℤ signed high (signed below (pos size *ℤ e))
helps_not true false size e h = omega (arith, ints, mul_le (pos size) e (pos 0) (omega (arith, ints)) (not_positive_is e h))
helps_not true true size e h = omega (arith, ints, mul_le (pos size) (pos 0) e (omega (arith, ints)) (not_negative_is e h))
helps_not false false size e h = omega (arith, ints, mul_le (pos size) (pos 0) e (omega (arith, ints)) (not_negative_is e h))
helps_not false true size e h = omega (arith, ints, mul_le (pos size) e (pos 0) (omega (arith, ints)) (not_positive_is e h))

-- a product is no less than its size with the sign changed
at_least_size : (below high : Bool) (size : ℕ) (e : ℤ) → neg_ℤ (pos (size * unsigned_abs e)) ≤ℤ signed high (signed below (pos size *ℤ e))
at_least_size below high size e = by_size below high (pos size *ℤ e) (size * unsigned_abs e) (size_mul (pos size) e)
  where
    by_size : (below high : Bool) (z : ℤ) (n : ℕ) → unsigned_abs z ≡ n → neg_ℤ (pos n) ≤ℤ signed high (signed below z)
    by_size true true z n h = omega (arith, ints)
    by_size true false z n h = omega (arith, ints)
    by_size false true z n h = omega (arith, ints)
    by_size false false z n h = omega (arith, ints)

-- a number above 0 times one with this sign has it too
signed_quotient : (high : Bool) (d z : ℤ) → pos 1 ≤ℤ d → pos 0 ≤ℤ signed high (d *ℤ z) → pos 0 ≤ℤ signed high z
signed_quotient high (pos zero) z h k = absurd (omega (arith, ints))
signed_quotient false (pos (suc n)) (pos m) h k = omega (arith, ints)
signed_quotient false (pos (suc n)) (negsuc m) h k = absurd (omega (arith, ints))
signed_quotient true (pos (suc n)) (pos zero) h k = omega (arith, ints)
signed_quotient true (pos (suc n)) (pos (suc m)) h k = absurd (omega (arith, ints))
signed_quotient true (pos (suc n)) (negsuc m) h k = omega (arith, ints)
signed_quotient high (negsuc n) z h k = absurd (omega (arith, ints))

-- the new cost of a variable that stays outside the basis keeps the sign of its end
pub kept_sign : (below high_in high : Bool) (scale new coefficient old cost e : ℤ) → pos 1 ≤ℤ scale
    → scale *ℤ new ≡ (pos (unsigned_abs coefficient) *ℤ old) +ℤ (cost *ℤ sign_turned coefficient e)
    → can_help below high_in coefficient ≡ true → pos 0 ≤ℤ signed high_in cost → pos 0 ≤ℤ signed high old
    → (can_help below high e ≡ true → unsigned_abs cost * unsigned_abs e ≤ unsigned_abs old * unsigned_abs coefficient)
    → pos 0 ≤ℤ signed high new
kept_sign below high_in high scale new coefficient old cost e positive sum helps sign_in sign ratio =
    signed_quotient high scale new positive
    (rw (sum ∙ ap (λ n. (pos (unsigned_abs coefficient) *ℤ old) +ℤ n) (turned_cost below high_in coefficient cost e helps sign_in))
    (parts high (pos (unsigned_abs coefficient) *ℤ old) (signed below (pos (unsigned_abs cost) *ℤ e)) own other))
  where
    parts : (high : Bool) (a b : ℤ) → pos (unsigned_abs coefficient * unsigned_abs old) ≤ℤ signed high a
        → neg_ℤ (pos (unsigned_abs coefficient * unsigned_abs old)) ≤ℤ signed high b → pos 0 ≤ℤ signed high (a +ℤ b)
    parts true a b h k = omega (arith, ints)
    parts false a b h k = omega (arith, ints)

    own_size : (high : Bool) (n : ℕ) (z : ℤ) → pos 0 ≤ℤ signed high z → pos (n * unsigned_abs z) ≤ℤ signed high (pos n *ℤ z)
    own_size true n z h = omega (arith, ints, ap (λ v. pos n *ℤ v) (size_down z (omega (arith, ints))), mul_neg (pos n) z)
    own_size false n z h = omega (arith, ints, ap (λ v. pos n *ℤ v) (size_up z h))

    own : pos (unsigned_abs coefficient * unsigned_abs old) ≤ℤ signed high (pos (unsigned_abs coefficient) *ℤ old)
    own = own_size high (unsigned_abs coefficient) old sign

    other : neg_ℤ (pos (unsigned_abs coefficient * unsigned_abs old)) ≤ℤ signed high (signed below (pos (unsigned_abs cost) *ℤ e))
    other =
        elim (cases_Bool (can_help below high e)) [
          | inl can ↦
              let r : unsigned_abs cost * unsigned_abs e ≤ unsigned_abs old * unsigned_abs coefficient = ratio can in
              omega (arith, ints, at_least_size below high (unsigned_abs cost) e)
          | inr cannot ↦ omega (arith, ints, helps_not below high (unsigned_abs cost) e cannot)
        ]

-- the new cost of the leaving variable has the sign of the end at which it comes to rest
pub leaving_sign : (below high_in : Bool) (scale new coefficient cost lead : ℤ) → pos 1 ≤ℤ scale → pos 1 ≤ℤ lead
    → scale *ℤ new ≡ cost *ℤ sign_turned coefficient (neg_ℤ lead) → can_help below high_in coefficient ≡ true → pos 0 ≤ℤ signed high_in cost
    → pos 0 ≤ℤ signed (not below) new
leaving_sign below high_in scale new coefficient cost lead positive above sum helps sign_in =
    signed_quotient (not below) scale new positive
    (rw (sum ∙ turned_cost below high_in coefficient cost (neg_ℤ lead) helps sign_in) (away below (unsigned_abs cost)))
  where
    away : (below : Bool) (size : ℕ) → pos 0 ≤ℤ signed (not below) (signed below (pos size *ℤ neg_ℤ lead))
    away true size = omega (arith, ints, mul_neg (pos size) lead, mul_le (pos size) (pos 0) lead (omega (arith, ints)) (omega (arith, ints)))
    away false size = omega (arith, ints, mul_neg (pos size) lead, mul_le (pos size) (pos 0) lead (omega (arith, ints)) (omega (arith, ints)))
