use Rattle.std.proofs.Common.{pos, ◌<ℤ◌, arith, FitsSigned}
use Rattle.std.proofs.lemmas.Int.{ints, to_z-of_z}
use mir.Syntax.{w64, w128}
use Rattle.opt_bound.proofs.LeafLemmas.{least_reached}
use Rattle.opt_bound.proofs.leaf.verdict_of.Goals as goal

pub returns-else-q-eq0-clause-least : goal.returns-else-q-eq0-clause-least
returns-else-q-eq0-clause-least c =
    let b : FitsSigned w128 c.args.b = c.ranges.b in
    let q : FitsSigned w64 c.args.q = c.ranges.q in
    let above : pos 0 <ℤ c.args.b = omega (arith, ints, c.if-b-le0.false) in
    let divisor : pos 0 <ℤ c.args.q = omega (arith, ints, c.if-q-eq0.false, c.requires) in
    rw (to_z-of_z w128 c.quotient_up.result (record { sfits = c.quotient_up.type_inv }))
    (least_reached c.args.b c.args.q c.quotient_up.result above divisor (simp to_z-of_z at c.quotient_up.ensures))
