use Rattle.std.proofs.Common.{sym, ◌∙◌}
use Rattle.opt_bound.proofs.FaultLemmas.{admissible_of, none_of}
use Rattle.opt_check.proofs.root_line.look_root.Goals as goal

pub leaf_at-requires-clause-admissible : goal.leaf_at-requires-clause-admissible
leaf_at-requires-clause-admissible c =
    admissible_of c.args.system.now c.args.root.now.entries
    (sym c.first_fault.ensures ∙ none_of c.first_fault.result (sym c.is_some.ensures ∙ c.if-is_some.false))
