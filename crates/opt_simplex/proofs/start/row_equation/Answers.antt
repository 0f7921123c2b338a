use Rattle.std.proofs.Common.{◌≡◌, ◌+◌, length, pos, ap, ◌∙◌}
use Rattle.std.proofs.lemmas.Result.{IfOk-weaker}
use Rattle.opt_system.specs.Systems.{row_at}
use Rattle.opt_frac.specs.Equations.{equation_of, lowest}
use Rattle.opt_simplex.proofs.StartSteps.{lowest-one}
use Rattle.opt_simplex.proofs.start.row_equation.Goals as goal

pub returns : goal.returns
returns c =
    IfOk-weaker c.new.result (λ e. e ≡ lowest (equation_of (c.quantities.result + c.args.i) (pos 1) c.deref.result.now))
    (λ e. e ≡ equation_of (length c.args.system.now.cost + c.args.i) (pos 1) (row_at c.args.system.now.rows c.args.i).terms)
    (λ e h. h ∙ lowest-one (c.quantities.result + c.args.i) c.deref.result.now
    ∙ ap (λ n. equation_of (n + c.args.i) (pos 1) c.deref.result.now) c.quantities.ensures.count
    ∙ ap (equation_of (length c.args.system.now.cost + c.args.i) (pos 1)) (c.deref.ensures.value ∙ c.in_ok-terms.ensures ∙ c.terms.ensures.value))
    c.new.ensures
