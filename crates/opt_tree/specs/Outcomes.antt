-- The certificate of a search's outcome.
use Rattle.opt_tree.specs.declared.outcome.Outcome.{Outcome}
use Rattle.opt_tree.specs.Certificates.{Certificate, certificate_of}
use Rattle.opt_tree.specs.Nodes.{tree_of}

-- its verdict, its root line, the quantities of its best point whose value is not 0, and its tree
abbrev pub outcome_certificate : Outcome → Certificate
outcome_certificate o = certificate_of o.verdict o.root o.best (tree_of o.tree)
