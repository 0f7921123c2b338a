-- What one of a quantity's value stands for in a plan file.
use Rattle.std.specs.Prelude.{ℤ, pos, ◌*ℤ◌}
use Rattle.opt_model.specs.Tables.{Tables}
use Rattle.opt_model.specs.Quantities.{step_of}
use Rattle.opt_model.specs.declared.quantity.Quantity.{Quantity}
use Rattle.opt_model.specs.declared.quantity.Quantity.TheVariants.{Ration}

-- the step of a ration, in grams; of all others 1
abbrev pub unit_of : Tables → Quantity → ℤ
unit_of t (Ration b c m) = step_of t c
unit_of t q = pos 1

-- the amount that a plan file gives for a value of a quantity
abbrev pub amount_of : Tables → Quantity → ℤ → ℤ
amount_of t q value = unit_of t q *ℤ value
