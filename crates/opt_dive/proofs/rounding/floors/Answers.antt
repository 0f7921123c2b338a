use Rattle.std.proofs.Common.{◌≡◌, ◌<◌, ◌^◌, length, pos, unsigned_abs, ap, arith}
use Rattle.std.proofs.lemmas.Int.{ints}
use Rattle.opt_simplex.specs.Soundness.{fraction_at}
use Rattle.opt_simplex.specs.Guide.{floor_of}
use Rattle.opt_dive.proofs.RoundSteps.{floors-more}
use Rattle.opt_dive.proofs.rounding.floors.Goals as goal

pub loop-j-preserved : goal.loop-j-preserved
loop-j-preserved c =
    let inside : c.loop-j.j < length c.args.point.now = omega (arith, c.loop-j-test.true, ap length c.as_slice-count.ensures.value) in
    let small : unsigned_abs (floor_of (fraction_at c.args.point.now c.loop-j.j)) < 2 ^ 51 = c.requires c.loop-j.j (pos 0, pos 1) inside in
    let is : c.floor.result ≡ floor_of (fraction_at c.args.point.now c.loop-j.j) = c.floor.ensures.value in
    let size : unsigned_abs c.floor.result < 2 ^ 51 = rw is small in
    floors-more c.args.point.now c.loop-j.j c.loop-j.values.items c.push.new.self.items _ inside c.loop-j.invariant c.in_ok-push.ensures.items
    (omega (arith, ints, size, is))
