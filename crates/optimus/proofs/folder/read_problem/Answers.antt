use Rattle.optimus.proofs.Folders.{brings_model, brings_refusal}
use Rattle.optimus.proofs.folder.read_problem.Goals as goal

pub returns-in-Ok-clause-model : goal.returns-in-Ok-clause-model
returns-in-Ok-clause-model g c =
    brings_model (g.S.Shelf.files c.args.shelf.now) c.args.folder.now c.in-Ok.files c.problem_of.result c.problem_of.ensures.exact
    (λ held told. c.in-Ok.ensures.found held told)

pub returns-in-Ok-clause-cause : goal.returns-in-Ok-clause-cause
returns-in-Ok-clause-cause g c = record { later = c.in-Ok.ensures.cause.later; cause = λ e. absurd (c.problem_of.ensures.inside e) }

pub returns-in-Err-clause-model : goal.returns-in-Err-clause-model
returns-in-Err-clause-model g c =
    brings_refusal (g.S.Shelf.files c.args.shelf.now) c.args.folder.now c.in-Err.fault c.in-Err.ensures.refused (λ held told. c.in-Err.ensures.found held told)
