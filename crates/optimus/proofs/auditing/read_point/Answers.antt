use Rattle.std.proofs.Common.{arith}
use Rattle.optimus.proofs.Plans.{brings_plan, brings_no_plan}
use Rattle.optimus.proofs.auditing.read_point.Goals as goal

pub point_of-requires : goal.point_of-requires
point_of-requires g c = (let few = c.in-Ok.ensures.at_most in omega (arith, few))

pub returns-in-Ok-clause-plan : goal.returns-in-Ok-clause-plan
returns-in-Ok-clause-plan g c =
    brings_plan (g.S.Shelf.files c.args.shelf.now) c.args.folder.now c.args.problem.now c.in-Ok.bytes c.point_of.result c.in-Ok.ensures.found c.point_of.ensures.exact

pub returns-in-Ok-clause-cause : goal.returns-in-Ok-clause-cause
returns-in-Ok-clause-cause g c = record { later = c.in-Ok.ensures.cause.later; cause = λ e. absurd (c.point_of.ensures.inside e) }

pub returns-in-Err-clause-plan : goal.returns-in-Err-clause-plan
returns-in-Err-clause-plan g c =
    brings_no_plan (g.S.Shelf.files c.args.shelf.now) c.args.folder.now c.args.problem.now c.in-Err.fault c.in-Err.ensures.found
