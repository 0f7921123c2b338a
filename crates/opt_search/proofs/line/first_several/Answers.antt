use Rattle.std.proofs.Common.{◌<◌, length, arith}
use Rattle.opt_search.proofs.LineLemmas.{some_differs}
use Rattle.opt_search.proofs.line.first_several.Goals as goal

pub returns-after-loop-j-clause-there : goal.returns-after-loop-j-clause-there
returns-after-loop-j-clause-there c = some_differs c.args.low.now c.args.high.now c.loop-j.j c.requires.same_length c.requires.differ c.loop-j.invariant.0 c.loop-j.invariant.1

pub returns-after-loop-j-clause-several : goal.returns-after-loop-j-clause-several
returns-after-loop-j-clause-several c =
    let there : c.loop-j.j < length c.args.low.now =
    some_differs c.args.low.now c.args.high.now c.loop-j.j c.requires.same_length c.requires.differ c.loop-j.invariant.0 c.loop-j.invariant.1
    in
    absurd (omega (arith, c.loop-j-test.false))
