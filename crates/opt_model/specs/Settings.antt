-- What a folder's settings say.
use Rattle.std.specs.Prelude.{ℕ, ◌-◌, Bool, nat_le, List, Option, ℤ, slice_index}
use Rattle.opt_model.specs.declared.records.Goal.{Goal}

-- baskets with needs of their own came with format 2
abbrev pub has_baskets : ℕ → Bool
has_baskets format = nat_le 2 format

-- offers with a fee and a least lot came with format 3
abbrev pub has_lots : ℕ → Bool
has_lots format = nat_le 3 format

-- the settings of a model: days has one number a month; gap and budget are in mills (or gap in weighted shortfall)
pub record Settings : Type 0 where
  pub format : ℕ
  pub months : ℕ
  pub days : List ℕ
  pub goal : Goal
  pub gap : ℤ
  pub nodes : ℕ
  pub budget : Option ℤ

-- the days of a month, months numbered from 1
abbrev pub days_of : Settings → ℕ → ℕ
days_of settings month = slice_index settings.days (month - 1)
