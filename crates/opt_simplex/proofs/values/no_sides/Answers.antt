use Rattle.std.proofs.Common.{◌≡◌, None, replicate, ap, ◌∙◌, arith}
use Rattle.opt_simplex.proofs.values.no_sides.Goals as goal

pub returns : goal.returns
returns c =
    let all : c.loop.counter ≡ c.args.count = omega (arith, c.loop-test.false, c.loop.auto.counter-end) in
    c.loop.invariant ∙ ap (λ n. replicate n None) all
