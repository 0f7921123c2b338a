use Rattle.std.proofs.Common.{map, ap, ◌++◌, ◌∙◌}
use Rattle.opt_tables.specs.Keys.{known_by, known_names}
use Rattle.opt_tables.proofs.KeySets.{add-behind}
use Rattle.opt_tables.proofs.keys.Keys.add_behind.Goals as goal

pub returns-clause-ok : goal.returns-clause-ok
returns-clause-ok c =
    ap (λ keys. known_names c.self.inside.names.keys ++ map known_by keys) c.in_ok-insert.ensures.keys
    ∙ rw (← c.self.view_is) (add-behind c.args.key c.self.inside.names.keys c.self.inside.others.keys (rw c.self.view_is c.requires.absent))
