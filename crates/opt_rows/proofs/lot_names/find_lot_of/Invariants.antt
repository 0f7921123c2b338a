use Rattle.opt_rows.specs.Names.{lot_names_in}
use Rattle.opt_rows.proofs.Finding.{PastMonths}
use Rattle.opt_rows.proofs.lot_names.find_lot_of.Given as goal

abbrev pub invariant-loop-earlier : goal.invariant-loop-earlier
invariant-loop-earlier l = PastMonths (lot_names_in l.number l.offer) l.tables.settings.months l.earlier l.i l.rest
