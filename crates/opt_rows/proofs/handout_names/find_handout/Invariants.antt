use Rattle.opt_rows.specs.Names.{handout_names_at}
use Rattle.opt_rows.proofs.Finding.{PastRecords}
use Rattle.opt_rows.proofs.handout_names.find_handout.Given as goal

abbrev pub invariant-loop-number : goal.invariant-loop-number
invariant-loop-number l = PastRecords (handout_names_at l.tables) l.tables.places l.number l.i l.rest
