use Rattle.std.proofs.Common.{◌≡◌, ◌-ℤ◌, arith, FitsSigned, refl}
use Rattle.std.proofs.lemmas.Int.{ints, clamps, to_z-of_z}
use Rattle.std.specs.Int.{int_max}
use mir.Syntax.{w128}
use Rattle.opt_search.proofs.state.State.is_reached.Goals as goal

pub returns-in-Some : goal.returns-in-Some
returns-in-Some c =
    let f1 : FitsSigned w128 c.max.result = record { sfits = c.max.type_inv } in
    let f2 : FitsSigned w128 c.from.result = record { sfits = c.from.type_inv } in
    let f3 : FitsSigned w128 c.in-Some.best.value = omega (arith, ints, c.in-Some.best.from_zero, c.in-Some.best.small) in
    let g : c.from.result ≡ c.args.task.now.gap = omega (arith, ints) in
    let f4 : FitsSigned w128 (c.in-Some.best.value -ℤ c.from.result) = omega (arith, ints, c.in-Some.best.from_zero, c.in-Some.best.small) in
    let m : c.max.result ≡ int_max c.args.self.now.root_bound c.args.bound = omega (arith, ints, clamps, c.max.ensures.value) in
    rw c.in-Some.is (simp to_z-of_z (rw (g, m) refl))
