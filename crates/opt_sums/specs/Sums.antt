-- Sums over the numbers below a bound, and the value that a list has at a number.
use Rattle.std.specs.Prelude.{ℕ, zero, suc, List, ℤ, pos, ◌+ℤ◌, slice_index_or}

-- the value at j, or 0 past the end
abbrev pub at : List ℤ → ℕ → ℤ
at xs j = slice_index_or xs j (pos 0)

-- the sum of f j over each j below n
abbrev pub sum_to : ℕ → (ℕ → ℤ) → ℤ
sum_to zero f = pos 0
sum_to (suc n) f = sum_to n f +ℤ f n
