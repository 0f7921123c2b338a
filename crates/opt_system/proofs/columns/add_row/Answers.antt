use Rattle.std.proofs.Common.{pos, arith}
use Rattle.opt_system.proofs.columns.add_row.Goals as goal

pub index_mut-requires : goal.index_mut-requires
index_mut-requires c =
    omega (arith, c.loop-term.invariant.same_length, c.requires c.loop-term.term-index (0, pos 0) c.loop-term-test.true)
