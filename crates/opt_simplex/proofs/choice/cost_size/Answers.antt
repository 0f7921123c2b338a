use Rattle.std.proofs.Common.{◌<◌, ◌^◌, unsigned_abs, FitsSigned, ap, arith}
use Rattle.std.proofs.lemmas.Int.{to_z-of_z}
use mir.Syntax.{w128}
use Rattle.opt_frac.proofs.SolutionLemmas.{fits-coef}
use Rattle.opt_simplex.proofs.choice.cost_size.Goals as goal

pub size-requires : goal.size-requires
size-requires c =
    let fits : FitsSigned w128 c.coefficient.result = record { sfits = c.coefficient.type_inv } in
    let small : unsigned_abs c.coefficient.result < 2 ^ 127 =
    omega (arith, ap unsigned_abs c.coefficient.ensures.value, fits-coef c.args.variable c.args.cost.now c.coefficient.ensures.reduced) in
    rw (to_z-of_z w128 c.coefficient.result fits) small
