-- Quantities with their values, and the plan that they make.
use Rattle.std.specs.Prelude.{List, ℤ}
use Rattle.opt_model.specs.Plans.{Plan, plan_of}
use Rattle.opt_model.specs.declared.quantity.Quantity.{Quantity}

-- quantities, and a value for each
pub record ValueList : Type 0 where
  pub quantities : List Quantity
  pub values : List ℤ

-- the plan of these quantities and values
unfoldable pub plan_with : ValueList → Plan
plan_with list = plan_of list.quantities list.values
