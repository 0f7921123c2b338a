use Rattle.std.proofs.Common.{◌<◌, All, Contains, sym, subst, arith}
use Rattle.std.proofs.lemmas.List.Elements.{All-push}
use Rattle.opt_simplex.proofs.PositionSteps.{contains-more}
use Rattle.opt_simplex.proofs.values.all_positions.Goals as goal

pub loop-i-preserved : goal.loop-i-preserved
loop-i-preserved c =
    record {
      inside =
          subst (All (λ i. i < c.args.count)) (sym c.in_ok-push.ensures.items)
          (All-push (λ i. i < c.args.count) c.loop-i.positions.items c.loop-i.i c.loop-i.invariant.inside c.loop-i-test.true);
      all =
          λ i below.
          subst (λ xs. Contains xs i) (sym c.in_ok-push.ensures.items) (contains-more c.loop-i.positions.items c.loop-i.i c.loop-i.invariant.all i below);
    }
