-- Greatest common divisors, and the width of 128 bits.
use Rattle.std.specs.Prelude.{ℕ, zero, suc, ◌%◌, ◌^◌, ◌<◌, List, [], ◌∷◌, Bool, true, ◌&&◌, map, ℤ, pos, unsigned_abs, int_div, nat_lt}

-- Euclid's algorithm in at most so many steps
abbrev pub gcd_within : ℕ → ℕ → ℕ → ℕ
gcd_within zero a b = a
gcd_within (suc steps) a zero = a
gcd_within (suc steps) a (suc b) = gcd_within steps (suc b) (a % suc b)

-- the greatest common divisor of two numbers: the second falls in each step
unfoldable pub gcd : ℕ → ℕ → ℕ
gcd a b = gcd_within (suc b) a b

-- the greatest common divisor of a number and of the sizes of all coefficients
abbrev pub gcd_with : ℕ → List (ℕ × ℤ) → ℕ
gcd_with a [] = a
gcd_with a (e ∷ es) = gcd_with (gcd a (unsigned_abs e.1)) es

-- each coefficient divided by d
abbrev pub quotients : ℕ → List (ℕ × ℤ) → List (ℕ × ℤ)
quotients d es = map (λ e. (e.0, int_div e.1 (pos d))) es

-- the number lies from -(2^127 - 1) to 2^127 - 1
abbrev pub Fits : ℤ → Type 0
Fits z = unsigned_abs z < 2 ^ 127

-- the same as a test
abbrev pub fits : ℤ → Bool
fits z = nat_lt (unsigned_abs z) (2 ^ 127)

-- each coefficient lies there
abbrev pub all_fit : List (ℕ × ℤ) → Bool
all_fit [] = true
all_fit (e ∷ es) = fits e.1 && all_fit es
