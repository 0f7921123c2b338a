use Rattle.std.proofs.Common.{sym, ◌∙◌}
use Rattle.opt_tables.proofs.Equality.{has-name}
use Rattle.opt_tables.proofs.KeySets.{no-name}
use Rattle.opt_tables.proofs.keys.is_among.Goals as goal

pub returns-in_default : goal.returns-in_default
returns-in_default c = sym (no-name c.args.key c.in_default.not-Name c.args.names.now.keys)

pub returns : goal.returns
returns c = rw c.in-Name.is (c.contains.ensures ∙ has-name c.in-Name.name.now c.args.names.now.keys)
