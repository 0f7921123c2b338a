use Rattle.std.proofs.Common.{false}
use Rattle.opt_tables.proofs.KeySets.{has-either}
use Rattle.opt_tables.proofs.keys.Keys.has.Goals as goal

pub returns-else-is_among : goal.returns-else-is_among
returns-else-is_among c =
    rw (← c.self.view_is)
    (has-either c.args.key c.self.inside.names.keys c.self.inside.others.keys false c.contains.result c.if-is_among.ensures c.contains.ensures)
