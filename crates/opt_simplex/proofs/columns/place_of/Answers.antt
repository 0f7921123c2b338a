use Rattle.std.proofs.Common.{◌≤◌, All, length, arith}
use Rattle.std.proofs.lemmas.List.{take_all}
use Rattle.std.proofs.lemmas.List.Elements.{All-more}
use Rattle.opt_simplex.proofs.PositionSets.{with-place_before, with-place_end}
use Rattle.opt_simplex.proofs.columns.place_of.Goals as goal

pub returns-then-position-positions-clause-place : goal.returns-then-position-positions-clause-place
returns-then-position-positions-clause-place c =
    with-place_before c.args.position c.args.positions.now c.loop-i.i c.loop-i.invariant c.loop-i-test.true c.if-position-positions.true

pub loop-i-preserved : goal.loop-i-preserved
loop-i-preserved c =
    All-more (λ q. q ≤ c.args.position) c.args.positions.now c.loop-i.i 0 c.loop-i-test.true c.loop-i.invariant (omega (arith, c.if-position-positions.false))

pub returns-clause-place : goal.returns-clause-place
returns-clause-place c =
    let all : All (λ q. q ≤ c.args.position) c.args.positions.now =
    rw (take_all c.loop-i.i c.args.positions.now (omega (arith, c.loop-i-test.false))) at c.loop-i.invariant
    in
    with-place_end c.args.position c.args.positions.now (length c.args.positions.now)
    (rw (take_all (length c.args.positions.now) c.args.positions.now (omega arith)) all) (omega arith)
