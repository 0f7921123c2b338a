use Rattle.std.proofs.lemmas.Result.{err_from_is_err_and}
use Rattle.opt_plan.proofs.ModelLimits.{fails_quantities, fails_rows, own_system_is, is_within}
use Rattle.opt_plan.proofs.problem.Problem.new.Goals as goal

pub returns-in_err-layout : goal.returns-in_err-layout
returns-in_err-layout c =
    let p = err_from_is_err_and c.from_residual.result c.from_residual.ensures.1 in
    rw (p.1, p.2) (fails_quantities c.args.tables c.in_err-layout.field-0.0 c.in_err-layout.ensures.answer)

pub returns-in_err-system : goal.returns-in_err-system
returns-in_err-system c =
    let p = err_from_is_err_and c.from_residual-in_err-system.result c.from_residual-in_err-system.ensures.1 in
    rw (p.1, p.2)
    (fails_rows c.args.tables c.in_ok-layout.layout c.in_err-system.field-0.0 c.in_ok-layout.ensures.answer c.in_err-system.ensures.system)

pub invariant_of-result : goal.invariant_of-result
invariant_of-result c = record {
  layout = c.in_ok-layout.ensures.layout;
  system = own_system_is c.args.tables c.in_ok-system.system c.in_ok-system.ensures.system;
}

pub returns : goal.returns
returns c =
    is_within c.args.tables c.in_ok-layout.layout c.in_ok-system.system c.in_ok-layout.ensures.answer c.in_ok-system.ensures.system
