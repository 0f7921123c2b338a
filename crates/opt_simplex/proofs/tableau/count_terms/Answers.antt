use Rattle.std.proofs.Common.{◌≤◌, length, ap, sym, subst, arith}
use Rattle.std.proofs.lemmas.List.Sums.{sum_by_more}
use Rattle.opt_sums.proofs.RisingLemmas.{length-rising}
use Rattle.opt_frac.specs.Equations.{Equation}
use Rattle.opt_simplex.specs.Shape.{IsAmong}
use Rattle.opt_simplex.proofs.tableau.count_terms.Goals as goal
use Rattle.opt_simplex.proofs.tableau.count_terms.Goals.{After-terms}

-- each equation has at most as many terms as there are variables
short : (c : After-terms) → length c.terms.result.now ≤ 40000
short c =
    let among : IsAmong 40000 c.equation-item.result =
    subst (IsAmong 40000) (sym c.equation-item.is) (c.requires.among c.loop-equation.equation-index c.equation-item.result c.loop-equation-test.true) in
    omega (arith, ap length c.terms.ensures.value, length-rising 40000 c.equation-item.result.terms c.terms.ensures.reduced.solved.rising among.terms)

pub overflow_add-count : goal.overflow_add-count
overflow_add-count c = omega (arith, short (goal.at.overflow_add-count c).After-terms, c.loop-equation.invariant.few, c.requires.few)

pub loop-equation-preserved : goal.loop-equation-preserved
loop-equation-preserved c =
    record {
      count =
          omega (
            arith,
            ap length c.terms.ensures.value,
            ap (λ (e : Equation). length e.terms) c.equation-item.is,
            c.loop-equation.invariant.count,
            sum_by_more (λ e. length e.terms) c.args.equations.now c.loop-equation.equation-index c.equation-item.result c.loop-equation-test.true,
          );
      few = omega (arith, short (goal.at.loop-equation-preserved c).After-terms, c.loop-equation.invariant.few);
    }
