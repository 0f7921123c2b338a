-- Sparse entries: pairs of a number and a coefficient, the coefficients at one number taken together.
use Rattle.std.specs.Prelude.{ℕ, List, [], ◌∷◌, ℤ, pos, ◌+ℤ◌, ◌*ℤ◌, ◌==◌, ◌<◌, ◌≢◌, if◌then◌else◌}
use Rattle.std.specs.Prelude.{All, AllPairs}
use Rattle.opt_sums.specs.Sums.{at}

-- the sum of the coefficients at k
abbrev pub coef : List (ℕ × ℤ) → ℕ → ℤ
coef [] k = pos 0
coef (e ∷ es) k = (if e.0 == k then e.1 else pos 0) +ℤ coef es k

-- the sum over the entries of each coefficient times f at its number
abbrev pub weighted_sum : List (ℕ × ℤ) → (ℕ → ℤ) → ℤ
weighted_sum [] f = pos 0
weighted_sum (e ∷ es) f = (e.1 *ℤ f e.0) +ℤ weighted_sum es f

-- the sum over the entries of each coefficient times the value at its number
abbrev pub dot : List (ℕ × ℤ) → List ℤ → ℤ
dot es x = weighted_sum es (at x)

-- the numbers rise from entry to entry
abbrev pub IsRising : List (ℕ × ℤ) → Type 0
IsRising es = AllPairs (λ e d. e.0 < d.0) es

-- no coefficient is 0
abbrev pub HasNoZero : List (ℕ × ℤ) → Type 0
HasNoZero es = All (λ e. e.1 ≢ pos 0) es

-- each number is below n
abbrev pub AllBelow : ℕ → List (ℕ × ℤ) → Type 0
AllBelow n es = All (λ e. e.0 < n) es
