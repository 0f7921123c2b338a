-- What holds of all settings that are read.
use Rattle.std.specs.Prelude.{◌≡◌, ◌≤◌, ℤ, pos, ◌≤ℤ◌, length, All, IfSome}
use Rattle.opt_model.specs.Settings.{Settings}
use Rattle.opt_model.specs.declared.limits.TheConstants.{LAST_FORMAT}
use Rattle.opt_model.specs.declared.limits.TheConstants.{MONTH_LIMIT}
use Rattle.opt_read.specs.declared.limits.TheConstants.{AMOUNT_LIMIT, DAY_LIMIT, NODE_SETTING_LIMIT}

-- an amount of mills or of weighted shortfall
abbrev pub IsAmount : ℤ → Type 0
IsAmount amount = (pos 0 ≤ℤ amount) × (amount ≤ℤ pos AMOUNT_LIMIT)

-- the settings keep their ranges, and each month has its days
pub record IsSetup (s : Settings) : Type 0 where
  pub format : (1 ≤ s.format) × (s.format ≤ LAST_FORMAT)
  pub months : (1 ≤ s.months) × (s.months ≤ MONTH_LIMIT)
  pub days : length s.days ≡ s.months
  pub day : All (λ days. days ≤ DAY_LIMIT) s.days
  pub gap : IsAmount s.gap
  pub nodes : (1 ≤ s.nodes) × (s.nodes ≤ NODE_SETTING_LIMIT)
  pub budget : IfSome s.budget IsAmount
