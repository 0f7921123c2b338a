-- What multipliers and fractions of 128 bits keep.
use Rattle.std.specs.Prelude.{All, ℤ, pos, ◌≤ℤ◌}
use Rattle.opt_sums.specs.Entries.{IsRising, HasNoZero}
use Rattle.opt_bound.specs.Multipliers.{Multipliers}
use Rattle.opt_frac.specs.Divisors.{Fits}

-- q is at least 0; the entries go by rising row, none of them 0; every number fits
pub record AreRaw (m : Multipliers) : Type 0 where
  pub q_from_zero : pos 0 ≤ℤ m.q
  pub q_fits : Fits m.q
  pub rising : IsRising m.entries
  pub no_zero : HasNoZero m.entries
  pub fitting : All (λ e. Fits e.1) m.entries

-- the numerator fits, and the denominator is at least 1
pub record IsFraction (f : ℤ × ℤ) : Type 0 where
  pub numerator_fits : Fits f.0
  pub denominator_positive : pos 1 ≤ℤ f.1
