use Rattle.opt_rows.specs.Names.{throughput_names_of}
use Rattle.opt_rows.proofs.Finding.{PastRecords}
use Rattle.opt_rows.proofs.network_names.find_throughput.Given as goal

abbrev pub invariant-loop-number : goal.invariant-loop-number
invariant-loop-number l = PastRecords (throughput_names_of l.tables) l.tables.places l.number l.i l.rest
