use Rattle.std.proofs.Common.{FitsSigned, refl, arith}
use Rattle.std.proofs.lemmas.Int.{ints, to_z-of_z}
use mir.Syntax.{w64, w128}
use Rattle.opt_search.proofs.growth.split.Goals as goal

pub returns-in-Ok-clause-split : goal.returns-in-Ok-clause-split
returns-in-Ok-clause-split c =
    let f1 : FitsSigned w128 c.args.leaf.0 = omega (arith, ints) in
    let f2 : FitsSigned w64 c.args.cut.1 = omega (arith, ints) in
    record {
      tree = simp to_z-of_z at c.in-Ok.ensures.ok;
      shown = refl;
      root = refl;
      root_bound = refl;
      best = refl;
      open_leaves = simp to_z-of_z at c.remove.ensures;
    }
