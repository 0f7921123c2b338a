use Rattle.std.proofs.Common.{◌≡◌, ◌≢◌, [], ◌∷◌, ◌++◌, pos, ap, ◌∙◌, arith}
use Rattle.std.proofs.lemmas.Int.{ints}
use Rattle.opt_sums.specs.Sums.{at}
use Rattle.opt_simplex.proofs.StartSteps.{cost-left, cost-gone}
use Rattle.opt_simplex.proofs.start.cost_terms.Goals as goal
use Rattle.opt_simplex.proofs.start.cost_terms.Goals.{then-costs-j-ne0+in_ok-push, else-costs-j-ne0}

pub loop-j-preserved : goal.loop-j-preserved
loop-j-preserved c =
    elim c.if-costs-j-ne0.branch [
      | then-costs-j-ne0+in_ok-push w ↦
          let some : at c.args.costs.now c.loop-j.j ≢ pos 0 = omega (arith, ints, w.if-costs-j-ne0.true) in
          rw w.terms-is
          (w.in_ok-push.ensures.items ∙ ap (λ e. c.loop-j.terms.items ++ e ∷ []) w.cost_term.ensures
          ∙ cost-left c.args.costs.now c.loop-j.j c.loop-j.terms.items c.loop-j-test.true some c.loop-j.invariant)
      | else-costs-j-ne0 w ↦
          let gone : at c.args.costs.now c.loop-j.j ≡ pos 0 = omega (arith, ints, w.if-costs-j-ne0.false) in
          rw w.terms-is (cost-gone c.args.costs.now c.loop-j.j c.loop-j.terms.items c.loop-j-test.true gone c.loop-j.invariant)
    ]
