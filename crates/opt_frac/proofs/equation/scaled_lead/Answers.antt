use Rattle.opt_frac.proofs.Steps.{product_positive}
use Rattle.opt_frac.proofs.equation.scaled_lead.Goals as goal

pub returns-clause-positive : goal.returns-clause-positive
returns-clause-positive c = product_positive c.args.old.now.lead c.args.factors.own c.lead.ensures.reduced.solved.lead_positive c.requires
