use Rattle.opt_rows.specs.Names.{handout_names_in}
use Rattle.opt_rows.proofs.Finding.{PastMonths}
use Rattle.opt_rows.proofs.handout_names.find_handout_of.Given as goal

abbrev pub invariant-loop-earlier : goal.invariant-loop-earlier
invariant-loop-earlier l = PastMonths (handout_names_in l.tables l.number l.place l.commodity) l.tables.settings.months l.earlier l.i l.rest
