use Rattle.std.proofs.Common.{◌≡◌, ◌-ℤ◌, pos, unsigned_abs, FitsSigned, w64, to_z, of_z, ap, ◌∙◌, rules, arith}
use Rattle.std.proofs.lemmas.Int.{ints}
use mir.Syntax.{w128}
use Rattle.opt_sums.specs.Entries.{dot}
use Rattle.opt_system.specs.Systems.{row_at}
use Rattle.opt_report.proofs.Breaches.{sum_small}
use Rattle.opt_report.proofs.broken.distance.Goals as goal

pub overflow_sub-row_sum : goal.overflow_sub-row_sum
overflow_sub-row_sum c =
    let small = sum_small c.args.system.now c.args.x.now c.args.i c.rows-rows.ensures.limited c.requires.within c.requires.row in
    let right : FitsSigned w64 c.right_hand_side.result = search rules in
    omega (arith, ints, c.row_sum.ensures, c.from.ensures, small)

pub abs-requires : goal.abs-requires
abs-requires c =
    let small = sum_small c.args.system.now c.args.x.now c.args.i c.rows-rows.ensures.limited c.requires.within c.requires.row in
    let right : FitsSigned w64 c.right_hand_side.result = search rules in
    omega (arith, ints, c.row_sum.ensures, c.from.ensures, small)

pub returns : goal.returns
returns c =
    let small = sum_small c.args.system.now c.args.x.now c.args.i c.rows-rows.ensures.limited c.requires.within c.requires.row in
    let right : FitsSigned w64 c.right_hand_side.result = search rules in
    let left = dot (row_at c.args.system.now.rows c.args.i).terms c.args.x.now in
    let apart : to_z w128 (of_z w128 (to_z w128 (of_z w128 c.row_sum.result) -ℤ to_z w128 (of_z w128 c.from.result))) ≡ left -ℤ (row_at c.args.system.now.rows c.args.i).right_hand_side =
    omega (arith, ints, c.row_sum.ensures, c.from.ensures, c.right_hand_side.ensures, small) in
    let size : pos (unsigned_abs (to_z w128 (of_z w128 (to_z w128 (of_z w128 c.row_sum.result) -ℤ to_z w128 (of_z w128 c.from.result))))) ≡ pos (unsigned_abs (left -ℤ (row_at c.args.system.now.rows c.args.i).right_hand_side)) =
    ap (λ z. pos (unsigned_abs z)) apart in
    omega (arith, ints, c.abs.ensures.value, size, apart, small, c.row_sum.ensures, c.from.ensures, c.right_hand_side.ensures)
