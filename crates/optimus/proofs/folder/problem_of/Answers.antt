use Rattle.opt_model.specs.Tables.{Tables}
use Rattle.opt_plan.specs.Models.{model_of}
use Rattle.optimus.proofs.Folders.{fails_got, not_outside}
use Rattle.optimus.proofs.folder.problem_of.Goals as goal

pub returns-in-Err-clause-exact : goal.returns-in-Err-clause-exact
returns-in-Err-clause-exact c =
    rw c.fetch_fault.ensures (fails_got (λ (t : Tables). t) c.in-Err.fault (model_of c.args.files.now) c.in-Err.ensures)

pub returns-in-Err-clause-inside : goal.returns-in-Err-clause-inside
returns-in-Err-clause-inside c = λ e. not_outside c.in-Err.fault (cc (c.fetch_fault.ensures, e))
