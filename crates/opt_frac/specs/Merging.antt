-- Two scaled lists of terms added into a buffer, term by term.
use Rattle.std.specs.Prelude.{◌≡◌, ℕ, List, ◌++◌, Bool, true, false, ◌&&◌, ℤ, pos, ◌+ℤ◌, ◌*ℤ◌, drop, slice_index_or, Option, Some, None, Result, Ok, Err}
use Rattle.opt_frac.specs.declared.elim_fault.ElimFault.{ElimFault}
use Rattle.opt_frac.specs.declared.elim_fault.ElimFault.TheVariants.{Wide, OutOfMemory}
use Rattle.opt_frac.specs.Divisors.{fits, all_fit}
use Rattle.opt_frac.specs.Elimination.{multiple, merged_sum, without}

-- term i, or a term of 0 past the last
abbrev pub term_at : List (ℕ × ℤ) → ℕ → ℕ × ℤ
term_at es i = slice_index_or es i (0, pos 0)

-- term i times g
abbrev pub multiple_at : ℤ → List (ℕ × ℤ) → ℕ → ℕ × ℤ
multiple_at g es i = ((term_at es i).0, g *ℤ (term_at es i).1)

-- the terms from number i on, but for those at col, times g
abbrev pub rest_of : ℤ → ℕ → List (ℕ × ℤ) → ℕ → List (ℕ × ℤ)
rest_of g col es i = multiple g (without col (drop i es))

-- both numbers and their sum fit
abbrev pub sum_fits : ℤ → ℤ → Bool
sum_fits a b = fits a && (fits b && fits (a +ℤ b))

-- the sum of both numbers, or none where one of the three does not fit
abbrev pub IsSum : Option ℤ → ℤ → ℤ → Type 0
IsSum None a b = sum_fits a b ≡ false
IsSum (Some sum) a b = (sum_fits a b ≡ true) × (sum ≡ a +ℤ b)

-- each term of both lists and of their sum fits
abbrev pub sums_fit : List (ℕ × ℤ) → List (ℕ × ℤ) → Bool
sums_fit kept added = all_fit kept && (all_fit added && all_fit (merged_sum kept added))

-- these terms were written at the end, where all numbers fit; it is Wide only where one does not
abbrev pub Writes : {T : Type 0} → Result T ElimFault → List (ℕ × ℤ) → List (ℕ × ℤ) → Bool → List (ℕ × ℤ) → Type 0
Writes (Ok done) old new fitting written = (fitting ≡ true) × (new ≡ old ++ written)
Writes (Err Wide) old new fitting written = fitting ≡ false
Writes (Err OutOfMemory) old new fitting written = Unit {0}
