use Rattle.opt_tables.proofs.Sizes.{small-from_checked}
use Rattle.opt_tables.proofs.files.Files.check.Goals as goal

pub returns-clause-small : goal.returns-clause-small
returns-clause-small c = small-from_checked c.args.self.now c.check_each.result c.check_each.ensures
