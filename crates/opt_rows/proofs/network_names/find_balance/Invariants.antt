use Rattle.opt_rows.specs.Names.{balance_names_at}
use Rattle.opt_rows.proofs.Finding.{PastNumbers}
use Rattle.opt_rows.proofs.network_names.find_balance.Given as goal

abbrev pub invariant-loop-place : goal.invariant-loop-place
invariant-loop-place l = PastNumbers (balance_names_at l.tables) l.tables.places l.place l.i l.rest
