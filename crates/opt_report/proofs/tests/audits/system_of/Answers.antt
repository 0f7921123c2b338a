use Rattle.opt_report.proofs.ModelSystems.{built_system}
use Rattle.opt_report.proofs.tests.audits.system_of.Goals as goal

pub returns : goal.returns
returns c = built_system c.args.tables.now c.args.tables.now.settings.goal c.build.result c.build.ensures.system
