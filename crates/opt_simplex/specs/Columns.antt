-- Where the equations have terms at a variable.
use Rattle.std.specs.Prelude.{◌≡◌, ℕ, ◌+◌, ◌<◌, ◌==◌, List, [], ◌∷◌, Bool, not, filter, length, ℤ, unsigned_abs, nat_lt, slice_index_or, if◌then◌else◌}
use Rattle.std.specs.List.{slice_set}
use Rattle.opt_sums.specs.Entries.{coef}
use Rattle.opt_frac.specs.Equations.{Equation}
use Rattle.opt_simplex.specs.Tableau.{equation_at}

-- the equation has a term at the variable
abbrev pub has_term : ℕ → Equation → Bool
has_term k e = not (unsigned_abs (coef e.terms k) == 0)

-- the positions of the equations with a term at variable k, rising, where the first of these equations stands at i
abbrev pub positions_from : ℕ → ℕ → List Equation → List ℕ
positions_from k i [] = []
positions_from k i (e ∷ es) = if has_term k e then i ∷ positions_from k (i + 1) es else positions_from k (i + 1) es

-- the position put in its place among rising ones
abbrev pub with_position : ℕ → List ℕ → List ℕ
with_position p [] = p ∷ []
with_position p (q ∷ qs) = if nat_lt p q then p ∷ q ∷ qs else q ∷ with_position p qs

-- the positions but this one
abbrev pub without_position : ℕ → List ℕ → List ℕ
without_position p qs = filter (λ q. not (q == p)) qs

-- the positions that are kept for variable k, or none past the end
abbrev pub column_at : List (List ℕ) → ℕ → List ℕ
column_at columns k = slice_index_or columns k []

-- for each of the first n variables, the columns have the positions of the equations with a term at it
pub record AreColumns (n : ℕ) (es : List Equation) (columns : List (List ℕ)) : Type 0 where
  pub each : length columns ≡ n
  pub listed : (k : ℕ) → k < n → column_at columns k ≡ positions_from k 0 es

-- of whichever equations the old columns are, the new ones are of the same with other terms at the position
abbrev pub Follow : ℕ → List (ℕ × ℤ) → List (ℕ × ℤ) → List (List ℕ) → List (List ℕ) → Type 0
Follow position before after olds news =
    (n : ℕ) (es : List Equation) (e : Equation) → position < length es → (equation_at es position).terms ≡ before → e.terms ≡ after
    → AreColumns n es olds → AreColumns n (slice_set es position e) news
