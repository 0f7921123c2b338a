use Rattle.std.proofs.Common.{subst}
use Rattle.opt_model.specs.Tables.{Tables}
use Rattle.opt_network.specs.Numbering.{IsLayoutOf}
use Rattle.opt_plan.proofs.problem.Problem.layout.Goals as goal

pub returns : goal.returns
returns c = subst (λ (t : Tables). IsLayoutOf t c.self.inside.layout) c.self.view_is c.self.invariant.layout
