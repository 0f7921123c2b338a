use Rattle.std.proofs.Common.{◌≡◌, inl, inr, ℤ, FitsSigned, to_z, of_z, subst, arith}
use Rattle.std.proofs.lemmas.Int.{to_z-of_z}
use mir.Syntax.{w64}
use Rattle.opt_search.specs.State.{IsSound, IsLed}
use Rattle.opt_search.proofs.Ended.{IsEnded}
use Rattle.opt_search.proofs.EndedOutcome.{IsOutcomeOf, IsRight, outcome_right, outcome_guided}
use Rattle.opt_search.proofs.GuideSteps.{allows_twice}
use Rattle.opt_search.proofs.SearchLoop.{searches_more}
use Rattle.opt_search.proofs.branch_and_bound.search.Goals as goal
use Rattle.opt_search.proofs.branch_and_bound.search.Goals.{then-loop-state-test+else-nodes-limit, else-loop-state-test}

pub loop-state-preserved : goal.loop-state-preserved
loop-state-preserved g c =
    searches_more _ (g.G.Guide.may_weigh c.loop-state.guide) _ _ (g.G.Guide.may_try c.loop-state.guide) _ _ (g.G.Guide.may_cut c.loop-state.guide) _
    c.args.system.now (to_z w64 (of_z w64 c.args.gap)) c.args.limit c.loop-state.state c.grow.new.state c.loop-state.invariant c.in_ok-grow.ensures.sound
    c.in_ok-grow.ensures.complete
    (omega (arith, c.in_ok-grow.ensures.two_more, c.nodes.ensures.count))
    c.in_ok-grow.ensures.led c.in_ok-grow.ensures.same

pub returns-in_err-grow-clause-same : goal.returns-in_err-grow-clause-same
returns-in_err-grow-clause-same g c =
    allows_twice _ (g.G.Guide.may_weigh c.loop-state.guide) _ _ (g.G.Guide.may_try c.loop-state.guide) _ _ (g.G.Guide.may_cut c.loop-state.guide) _
    c.loop-state.invariant.same c.grow.ensures.same

pub returns : goal.returns
returns g c =
    let fits : FitsSigned w64 c.args.gap = c.ranges.gap in
    let e : to_z w64 (of_z w64 c.args.gap) ≡ c.args.gap = simp to_z-of_z in
    let sound : IsSound c.args.system.now c.args.gap c.loop-state.state =
    subst (λ (z : ℤ). IsSound c.args.system.now z c.loop-state.state) e c.loop-state.invariant.sound
    in
    let led : IsLed (g.G.Guide.may_weigh c.args.guide.now) (g.G.Guide.may_try c.args.guide.now) (g.G.Guide.may_cut c.args.guide.now) c.args.system.now c.args.gap c.loop-state.invariant.first c.loop-state.state =
    subst (λ (z : ℤ). IsLed (g.G.Guide.may_weigh c.args.guide.now) (g.G.Guide.may_try c.args.guide.now) (g.G.Guide.may_cut c.args.guide.now) c.args.system.now z c.loop-state.invariant.first c.loop-state.state) e c.loop-state.invariant.led
    in
    let ended : IsEnded c.args.system.now c.args.gap c.args.limit c.loop-state.state = record {
      sound = sound;
      complete = c.loop-state.invariant.complete;
      over = elim c.loop-state-test.branch [
        | then-loop-state-test+else-nodes-limit w ↦ inr (omega (arith, w.if-nodes-limit.false, w.nodes.ensures.count))
        | else-loop-state-test w ↦ inl (c.is_empty.ensures.0 w.loop-state-test.false)
      ];
    } in
    let is : IsOutcomeOf c.loop-state.state c.conclude.result = record {
      verdict = c.conclude.ensures.verdict;
      tree = c.conclude.ensures.tree;
      root = c.conclude.ensures.root;
      best = c.conclude.ensures.best;
    } in
    let right : IsRight c.args.system.now c.args.gap c.args.limit c.conclude.result =
    outcome_right c.args.system.now c.args.gap c.args.limit c.loop-state.state c.conclude.result c.requires.gap_from_zero ended c.loop-state.invariant.few is
    in
    record {
      true_verdict = right.true_verdict;
      shown = right.shown;
      certificate = right.certificate;
      parted = right.parted;
      counted = right.counted;
      unfinished = right.unfinished;
      guided = outcome_guided _ _ _ c.args.system.now c.args.gap c.args.limit c.loop-state.invariant.first c.loop-state.state c.conclude.result ended is led;
      same = c.loop-state.invariant.same;
    }
