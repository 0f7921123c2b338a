use Rattle.std.proofs.lemmas.Result.{err_from_is_err_and}
use Rattle.opt_base.proofs.Given.{Gives-next, Fails-next}
use Rattle.opt_model.specs.Limits.{within_limits}
use Rattle.opt_tables.specs.Model.{tables_of}
use Rattle.opt_plan.proofs.problem.Problem.read.Goals as goal

pub returns-in_err-tables : goal.returns-in_err-tables
returns-in_err-tables c =
    let p = err_from_is_err_and c.from_residual.result c.from_residual.ensures.1 in
    rw (p.1, p.2) (Fails-next (tables_of c.args.files.now) within_limits c.in_err-tables.field-0.0 c.in_err-tables.ensures)

pub returns : goal.returns
returns c =
    Gives-next (tables_of c.args.files.now) within_limits (λ problem. problem) c.new.result c.in_ok-tables.tables c.in_ok-tables.ensures c.new.ensures
