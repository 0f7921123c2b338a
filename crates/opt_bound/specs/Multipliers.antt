-- Multipliers of the objective and of rows: their numbers, and for which systems they prove a bound.
use Rattle.std.specs.Prelude.{ℕ, ◌<◌, ◌≤◌, List, All, length, ℤ, pos, ◌≤ℤ◌, ◌<ℤ◌, unsigned_abs}
use Rattle.opt_sums.specs.Entries.{IsRising, HasNoZero}
use Rattle.opt_system.specs.declared.rows.RowKind.{RowKind}
use Rattle.opt_system.specs.declared.rows.RowKind.TheVariants.{Ge, Eq}
use Rattle.opt_system.specs.Systems.{System, row_at}
use Rattle.opt_bound.specs.declared.limits.TheConstants.{MULTIPLIER_LIMIT}

-- the multiplier of the objective, and those of rows by the row's number
pub record Multipliers : Type 0 where
  pub q : ℤ
  pub entries : List (ℕ × ℤ)

-- q is from 0 to the limit; the entries go by rising row, and each is not 0 and at most the limit in size
pub record IsProper (m : Multipliers) : Type 0 where
  pub q_from_zero : pos 0 ≤ℤ m.q
  pub q_small : unsigned_abs m.q ≤ MULTIPLIER_LIMIT
  pub rising : IsRising m.entries
  pub no_zero : HasNoZero m.entries
  pub small : All (λ e. unsigned_abs e.1 ≤ MULTIPLIER_LIMIT) m.entries

-- a row of this kind may be taken this often
abbrev pub MayWeigh : RowKind → ℤ → Type 0
MayWeigh Ge y = pos 0 <ℤ y
MayWeigh Eq y = Unit {0}

-- the entry names a row of the system, and is above 0 where that is a Ge row
abbrev pub IsFitting : System → ℕ × ℤ → Type 0
IsFitting p e = (e.0 < length p.rows) × MayWeigh (row_at p.rows e.0).kind e.1

-- each entry names a row of the system, and is above 0 where that is a Ge row
abbrev pub IsAdmissible : System → Multipliers → Type 0
IsAdmissible p m = All (IsFitting p) m.entries
