-- Greatest common divisors: Euclid's step, what they divide, and when they are 1.
use Rattle.std.proofs.Common.{◌≡◌, ℕ, zero, suc, ◌+◌, ◌%◌, ◌<◌, ◌≤◌, List, [], ◌∷◌, ◌++◌, length, take, drop, get_or, set, ℤ, pos, negsuc, ◌≤ℤ◌, unsigned_abs, int_div, refl, sym, ap, ◌∙◌, arith}
use Rattle.std.proofs.lemmas.Nat.Gcd.{le_of_dvd}
use Rattle.std.proofs.lemmas.List.{take_more_set, map_more, drop_more, drop-set-lt}
use Rattle.std.proofs.Math.Nat.{eq-one_of_dvd-one, pos_of_dvd_of_pos, div-one}
use Rattle.opt_frac.proofs.Divisions.{gcd-is, gcd_with-divides, exact, quotient_positive}
use Rattle.opt_frac.specs.Divisors.{gcd_within, gcd, gcd_with, quotients}

-- more steps than the second number asks for change nothing
gcd_within-enough : (n m a b : ℕ) → b < n → b < m → gcd_within n a b ≡ gcd_within m a b
gcd_within-enough zero m a b h k = absurd (omega arith)
gcd_within-enough (suc n) zero a b h k = absurd (omega arith)
gcd_within-enough (suc n) (suc m) a zero h k = refl
gcd_within-enough (suc n) (suc m) a (suc b) h k =
    gcd_within-enough n m (suc b) (a % suc b) (omega arith) (omega arith)

-- one step by a remainder
pub gcd-mod : (a b : ℕ) → 0 < b → gcd b (a % b) ≡ gcd a b
unfolding gcd
gcd-mod a zero h = absurd (omega arith)
gcd-mod a (suc b) h = gcd_within-enough (suc (a % suc b)) (suc b) (suc b) (a % suc b) (omega arith) (omega arith)

pub gcd-zero : (a : ℕ) → gcd a 0 ≡ a
unfolding gcd
gcd-zero a = refl

pub gcd-one : (b : ℕ) → gcd 1 b ≡ 1
gcd-one b = eq-one_of_dvd-one (gcd-is 1 b).0

pub gcd_with-one : (es : List (ℕ × ℤ)) → gcd_with 1 es ≡ 1
gcd_with-one [] = refl
gcd_with-one (e ∷ es) = rw (gcd-one (unsigned_abs e.1)) (gcd_with-one es)

-- ---- sizes
pub gcd_pos : (a b : ℕ) → 0 < a → 1 ≤ gcd a b
gcd_pos a b h = let above : 0 < gcd a b = pos_of_dvd_of_pos (gcd-is a b).0 h in omega arith

pub gcd_le : (a b : ℕ) → 0 < a → gcd a b ≤ a
gcd_le a b h = le_of_dvd h (gcd-is a b).0

pub gcd_with_pos : (a : ℕ) (es : List (ℕ × ℤ)) → 0 < a → 1 ≤ gcd_with a es
gcd_with_pos a es h = let above : 0 < gcd_with a es = pos_of_dvd_of_pos (gcd_with-divides a es).0 h in omega arith

pub gcd_with_le : (a : ℕ) (es : List (ℕ × ℤ)) → 0 < a → gcd_with a es ≤ a
gcd_with_le a es h = le_of_dvd h (gcd_with-divides a es).0

-- ---- division
int_div-one : (z : ℤ) → int_div z (pos 1) ≡ z
int_div-one (pos n) = ap pos (div-one n)
int_div-one (negsuc n) = rw (div-one (suc n)) refl

pub quotients-one : (es : List (ℕ × ℤ)) → quotients 1 es ≡ es
quotients-one [] = refl
quotients-one (e ∷ es) = rw (int_div-one e.1, quotients-one es) refl

-- one coefficient more is divided in place
pub divided_more : (d : ℕ) (old now : List (ℕ × ℤ)) (i : ℕ) (y : ℤ) → i < length old → i < length now → y ≡ int_div (get_or now i (0, pos 0)).1 (pos d) → (take i now ≡ quotients d (take i old)) × (drop i now ≡ drop i old) → (take (i + 1) (set now i ((get_or now i (0, pos 0)).0, y)) ≡ quotients d (take (i + 1) old)) × (drop (i + 1) (set now i ((get_or now i (0, pos 0)).0, y)) ≡ drop (i + 1) old)
divided_more d old now i y h k value is =
    let nothing : ℕ × ℤ = (0, pos 0) in
    let rests : (get_or now i nothing ∷ drop (i + 1) now) ≡ (get_or old i nothing ∷ drop (i + 1) old) =
    sym (drop_more now i nothing k) ∙ is.1 ∙ drop_more old i nothing h
    in
    let here : get_or now i nothing ≡ get_or old i nothing = ap (λ s. get_or s 0 nothing) rests in (
      take_more_set now i ((get_or now i nothing).0, y) k
          ∙ ap (λ s. s ++ ((get_or now i nothing).0, y) ∷ []) is.0
          ∙ ap (λ z. quotients d (take i old) ++ ((get_or now i nothing).0, z) ∷ []) value
          ∙ ap (λ e. quotients d (take i old) ++ (e.0, int_div e.1 (pos d)) ∷ []) here
          ∙ sym (map_more (λ (e : ℕ × ℤ). (e.0, int_div e.1 (pos d))) old i nothing h),
      drop-set-lt (i + 1) now i ((get_or now i nothing).0, y) (omega arith) ∙ ap (drop 1) rests,
    )

-- a number above 0 divided by a divisor of it
pub positive_quotient : (z : ℤ) (b : ℕ) → pos 1 ≤ℤ z → pos 1 ≤ℤ int_div z (pos (gcd (unsigned_abs z) b))
positive_quotient z b h = quotient_positive (gcd (unsigned_abs z) b) _ z (exact z (gcd (unsigned_abs z) b) (gcd-is (unsigned_abs z) b).0) h
