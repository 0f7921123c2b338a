use Rattle.std.proofs.Common.{ap, refl, arith, length}
use Rattle.opt_system.proofs.system.System.are_small.Goals as goal

pub returns : goal.returns
returns c = (
  λ t. record {
    cost_each = omega (arith, c.if-costs-low.false, ap length c.low.ensures.value);
    few_quantities = omega (arith, c.if-high-gt-QUANTITY_LIMIT.false, ap length c.high.ensures.value);
    costs = rw (← c.high-2.ensures.value) (c.if-not-small_costs.ensures.0 refl);
    terms = rw (← c.high-3.ensures.value, ← c.as_slice.ensures.value) (c.if-not-small_rows.ensures.0 refl);
    rights = rw (← c.as_slice-2.ensures.value) (c.small_right_hand_sides.ensures.0 t);
  },
  λ small. c.small_right_hand_sides.ensures.1 (rw c.as_slice-2.ensures.value small.rights),
)
