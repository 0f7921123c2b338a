use Rattle.std.proofs.Common.{◌≡◌, ◌+◌, length, pos, ap, ◌∙◌}
use Rattle.std.specs.List.{enumerate_from}
use Rattle.std.proofs.lemmas.Result.{IfOk-weaker}
use Rattle.opt_frac.specs.Equations.{equation_of, lowest}
use Rattle.opt_simplex.specs.Tableau.{not_zeros}
use Rattle.opt_simplex.proofs.StartSteps.{lowest-one, cost-solved}
use Rattle.opt_simplex.proofs.start.cost_equation.Goals as goal

pub new-requires : goal.new-requires
new-requires c =
    let terms : c.deref.result.now ≡ not_zeros (enumerate_from 0 c.args.system.now.cost) =
    c.deref.ensures.value ∙ c.in_ok-terms.ensures ∙ ap (λ xs. not_zeros (enumerate_from 0 xs)) c.costs.ensures.value in
    rw (c.quantities.ensures.count, c.rows.ensures.count, terms) (cost-solved c.args.system.now c.quantities.ensures.limited)

pub returns : goal.returns
returns c =
    let terms : c.deref.result.now ≡ not_zeros (enumerate_from 0 c.args.system.now.cost) =
    c.deref.ensures.value ∙ c.in_ok-terms.ensures ∙ ap (λ xs. not_zeros (enumerate_from 0 xs)) c.costs.ensures.value in
    IfOk-weaker c.new.result (λ e. e ≡ lowest (equation_of (c.quantities.result + c.rows.result) (pos 1) c.deref.result.now))
    (λ e. e ≡ equation_of (length c.args.system.now.cost + length c.args.system.now.rows) (pos 1) (not_zeros (enumerate_from 0 c.args.system.now.cost)))
    (λ e h. h ∙ lowest-one (c.quantities.result + c.rows.result) c.deref.result.now
    ∙ ap (λ n. equation_of (n + c.rows.result) (pos 1) c.deref.result.now) c.quantities.ensures.count
    ∙ ap (λ n. equation_of (length c.args.system.now.cost + n) (pos 1) c.deref.result.now) c.rows.ensures.count
    ∙ ap (equation_of (length c.args.system.now.cost + length c.args.system.now.rows) (pos 1)) terms)
    c.new.ensures
