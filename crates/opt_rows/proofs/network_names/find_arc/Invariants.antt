use Rattle.opt_rows.specs.Names.{arc_names_of}
use Rattle.opt_rows.proofs.Finding.{PastRecords}
use Rattle.opt_rows.proofs.network_names.find_arc.Given as goal

abbrev pub invariant-loop-number : goal.invariant-loop-number
invariant-loop-number l = PastRecords (arc_names_of l.tables) l.tables.arcs l.number l.i l.rest
