use Rattle.std.proofs.Common.{◌≤◌, ◌^◌, ◌*ℤ◌, unsigned_abs, FitsSigned, lit≤}
use Rattle.std.proofs.lemmas.Int.{to_z-of_z, fits_signed_mul}
use mir.Syntax.{w128}
use Rattle.opt_frac.proofs.NumberLemmas.{short_product}
use Rattle.opt_frac.proofs.number.product.Goals as goal
use Rattle.opt_frac.proofs.number.product.Goals.{Then-is_short-2}

first_short : (c : Then-is_short-2) → unsigned_abs c.args.a ≤ 2 ^ 63
first_short c =
    let a : FitsSigned w128 c.args.a = c.ranges.a in
    rw (to_z-of_z w128 c.args.a a) at c.if-is_short.ensures

second_short : (c : Then-is_short-2) → unsigned_abs c.args.b ≤ 2 ^ 63
second_short c =
    let b : FitsSigned w128 c.args.b = c.ranges.b in
    rw (to_z-of_z w128 c.args.b b) at c.if-is_short-2.ensures

product_fits : (c : Then-is_short-2) → FitsSigned w128 (c.args.a *ℤ c.args.b)
product_fits c = fits_signed_mul w128 c.args.a c.args.b (2 ^ 63) (2 ^ 63) (first_short c) (second_short c) (lit≤ tt)

pub overflow_mul-result : goal.overflow_mul-result
overflow_mul-result c =
    let a : FitsSigned w128 c.args.a = c.ranges.a in
    let b : FitsSigned w128 c.args.b = c.ranges.b in
    rw (to_z-of_z w128 c.args.a a, to_z-of_z w128 c.args.b b) (product_fits c)

pub returns-then-is_short-2 : goal.returns-then-is_short-2
returns-then-is_short-2 c =
    let a : FitsSigned w128 c.args.a = c.ranges.a in
    let b : FitsSigned w128 c.args.b = c.ranges.b in
    rw (to_z-of_z w128 c.args.a a, to_z-of_z w128 c.args.b b)
    (short_product c.args.a c.args.b (first_short c) (second_short c), to_z-of_z w128 (c.args.a *ℤ c.args.b) (product_fits c))
