use Rattle.opt_rows.specs.Names.{handout_names_of}
use Rattle.opt_rows.proofs.Finding.{PastNumbers}
use Rattle.opt_rows.proofs.handout_names.find_handout_at.Given as goal

abbrev pub invariant-loop-commodity : goal.invariant-loop-commodity
invariant-loop-commodity l = PastNumbers (handout_names_of l.tables l.number l.place) l.tables.commodities l.commodity l.i l.rest
