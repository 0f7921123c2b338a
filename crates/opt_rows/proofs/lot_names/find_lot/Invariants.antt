use Rattle.opt_rows.specs.Names.{lot_names_of}
use Rattle.opt_rows.proofs.Finding.{PastRecords}
use Rattle.opt_rows.proofs.lot_names.find_lot.Given as goal

abbrev pub invariant-loop-number : goal.invariant-loop-number
invariant-loop-number l = PastRecords (lot_names_of l.tables) l.tables.offers l.number l.i l.rest
