use Rattle.std.proofs.Common.{map, ap, ◌++◌, ◌∙◌}
use Rattle.opt_tables.specs.Keys.{known_by, known_names}
use Rattle.opt_tables.proofs.KeySets.{add-alone}
use Rattle.opt_tables.proofs.keys.Keys.add_name.Goals as goal

pub returns-clause-ok : goal.returns-clause-ok
returns-clause-ok c =
    ap (λ names. known_names names ++ map known_by c.self.inside.others.keys) c.in_ok-insert.ensures.keys
    ∙ rw (← c.self.view_is)
    (add-alone c.args.name c.self.inside.names.keys c.self.inside.others.keys (c.is_empty.ensures.0 c.if-not-is_empty.false) (rw c.self.view_is c.requires.absent))
