use Rattle.std.proofs.Common.{sym, ◌∙◌}
use Rattle.opt_simplex.specs.Values.{side_at}
use Rattle.opt_simplex.proofs.ChoiceSteps.{leaves_by-more, leaves_by-same, leaves_by-end, no_side}
use Rattle.opt_simplex.proofs.choice.choose_leaving.Goals as goal
use Rattle.opt_simplex.proofs.choice.choose_leaving.Goals.{then-is_some, else-is_some}

pub loop-i-preserved : goal.loop-i-preserved
loop-i-preserved c =
    elim c.if-is_some.branch [
      | then-is_some w ↦
          rw w.best-is
          record {
            rest =
                leaves_by-more c.args.equations.now c.args.sides.now c.loop-i.i c.loop-i.best w.leaving_on.result w.lesser-best.result c.loop-i-test.true
                c.loop-i.invariant.rest w.leaving_on.ensures.position w.leaving_on.ensures.below w.lesser-best.ensures.lesser;
            within = w.lesser-best.ensures.within;
          }
      | else-is_some w ↦
          rw w.best-is
          record {
            rest =
                leaves_by-same c.args.equations.now c.args.sides.now c.loop-i.i c.loop-i.best c.loop-i-test.true c.loop-i.invariant.rest
                (no_side (side_at c.args.sides.now c.loop-i.i) (sym c.is_some.ensures ∙ w.if-is_some.false));
            within = c.loop-i.invariant.within;
          }
    ]
