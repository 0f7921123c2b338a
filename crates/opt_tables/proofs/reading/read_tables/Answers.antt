use Rattle.std.proofs.Common.{rules}
use Rattle.opt_tables.proofs.EarlyLinks.{tables_early}
use Rattle.opt_tables.proofs.reading.read_tables.Goals as goal

pub returns : goal.returns
returns c = rw (← tables_early c.args.files.now c.args.setup) (search rules)
