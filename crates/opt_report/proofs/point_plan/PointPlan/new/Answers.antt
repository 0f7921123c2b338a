use Rattle.std.proofs.Common.{ap}
use Rattle.opt_model.specs.Plans.{plan_of}
use Rattle.opt_report.specs.PointPlans.{plan_with}
use Rattle.opt_report.proofs.point_plan.PointPlan.new.Goals as goal

pub returns : goal.returns
unfolding plan_with
returns c = ap (plan_of c.args.layout.now.quantities) c.as_slice.ensures
