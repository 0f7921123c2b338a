use Rattle.std.proofs.Common.{◌+◌, drop, subst}
use Rattle.std.proofs.lemmas.List.{drop_more}
use Rattle.opt_simplex.specs.Values.{AreNotedBut}
use Rattle.opt_simplex.proofs.values.Values.refresh.Goals as goal

pub loop-i-preserved : goal.loop-i-preserved
loop-i-preserved c =
    c.note.ensures (drop (c.loop-i.i-index + 1) c.args.positions.now)
    (subst (AreNotedBut c.args.variables.now c.args.tableau.now c.loop-i.self) (drop_more c.args.positions.now c.loop-i.i-index 0 c.loop-i-test.true) c.loop-i.invariant)
