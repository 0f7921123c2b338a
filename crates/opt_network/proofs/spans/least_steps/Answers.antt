use Rattle.std.proofs.Common.{◌≡◌, ◌+ℤ◌, ◌-ℤ◌, int_div, pos, arith, to_z, of_z, w64}
use Rattle.std.proofs.lemmas.Int.{ints}
use Rattle.opt_model.specs.Quantities.{least_steps}
use Rattle.opt_network.proofs.Quotients.{rounded_up}
use Rattle.opt_network.proofs.Ranges.{steps_span}
use Rattle.opt_network.proofs.spans.least_steps.Goals as goal

pub returns : goal.returns
returns c =
    let r = c.args.commodity.now in
    let span = steps_span r c.requires in
    let least : to_z w64 (of_z w64 r.min_g) ≡ r.min_g = omega (arith, ints, c.requires.min_g.above, c.requires.min_g.below) in
    let step : to_z w64 (of_z w64 r.step_g) ≡ r.step_g = omega (arith, ints, c.requires.step_g.above, c.requires.step_g.below) in
    let less : to_z w64 (of_z w64 (r.step_g -ℤ pos 1)) ≡ r.step_g -ℤ pos 1 = omega (arith, ints, c.requires.step_g.above, c.requires.step_g.below) in
    let sum : to_z w64 (of_z w64 (r.min_g +ℤ (r.step_g -ℤ pos 1))) ≡ r.min_g +ℤ (r.step_g -ℤ pos 1) =
    omega (arith, ints, c.requires.min_g.above, c.requires.min_g.below, c.requires.step_g.above, c.requires.step_g.below) in
    let quotient : int_div (r.min_g +ℤ (r.step_g -ℤ pos 1)) r.step_g ≡ least_steps r = rounded_up r.min_g r.step_g c.requires.min_g.above c.requires.step_g.above in
    let cast : to_z w64 (of_z w64 (least_steps r)) ≡ least_steps r = omega (arith, ints, span.from_zero, span.rising, span.small) in
    rw (least, step, less, sum, quotient) cast
