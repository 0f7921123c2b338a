use Rattle.opt_rows.specs.Names.{group_names_of}
use Rattle.opt_rows.proofs.Finding.{PastNumbers}
use Rattle.opt_rows.proofs.diet_names.find_group_in.Given as goal

abbrev pub invariant-loop-group : goal.invariant-loop-group
invariant-loop-group l = PastNumbers (group_names_of l.tables l.basket) l.tables.groups l.group l.i l.rest
