use Rattle.opt_rows.specs.Names.{storage_names_of}
use Rattle.opt_rows.proofs.Finding.{PastRecords}
use Rattle.opt_rows.proofs.network_names.find_storage.Given as goal

abbrev pub invariant-loop-number : goal.invariant-loop-number
invariant-loop-number l = PastRecords (storage_names_of l.tables) l.tables.places l.number l.i l.rest
