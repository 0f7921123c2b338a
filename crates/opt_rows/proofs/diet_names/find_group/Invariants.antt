use Rattle.opt_rows.specs.Names.{group_names_in}
use Rattle.opt_rows.proofs.Finding.{PastNumbers}
use Rattle.opt_rows.proofs.diet_names.find_group.Given as goal

abbrev pub invariant-loop-basket : goal.invariant-loop-basket
invariant-loop-basket l = PastNumbers (group_names_in l.tables) l.tables.baskets l.basket l.i l.rest
