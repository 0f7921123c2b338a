use Rattle.opt_rows.specs.Names.{balance_names_of}
use Rattle.opt_rows.proofs.Finding.{PastNumbers}
use Rattle.opt_rows.proofs.network_names.find_balance_at.Given as goal

abbrev pub invariant-loop-commodity : goal.invariant-loop-commodity
invariant-loop-commodity l = PastNumbers (balance_names_of l.tables l.place) l.tables.commodities l.commodity l.i l.rest
