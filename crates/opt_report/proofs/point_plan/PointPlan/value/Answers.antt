use Rattle.std.proofs.Common.{◌≡◌, pos, slice_index_or, w64, to_z, of_z, sym, ◌∙◌, arith}
use Rattle.std.proofs.lemmas.Int.{ints}
use Rattle.opt_report.proofs.PointValues.{value_small, value_at, no_value}
use Rattle.opt_report.proofs.point_plan.PointPlan.value.Goals as goal

pub returns-in-Some-clause-value : goal.returns-in-Some-clause-value
returns-in-Some-clause-value c =
    let layout = c.self.inside.layout.now in
    let values = c.self.inside.values.now in
    let small = value_small layout values c.len-count.ensures.numbering c.self.invariant c.args.quantity c.in-Some.number (sym c.in-Some.ensures) in
    let same : to_z w64 (of_z w64 (slice_index_or values c.in-Some.number (pos 0))) ≡ slice_index_or values c.in-Some.number (pos 0) = omega (arith, ints, small.above, small.below) in
    rw (← c.self.view_is) (same ∙ sym (value_at layout.quantities values c.args.quantity c.in-Some.number (sym c.in-Some.ensures)))

pub returns-in-None-clause-value : goal.returns-in-None-clause-value
returns-in-None-clause-value c =
    rw (← c.self.view_is) (sym (no_value c.self.inside.layout.now.quantities c.self.inside.values.now c.args.quantity (sym c.in-None.ensures)))
