use Rattle.opt_rows.specs.Names.{nutrient_names_of}
use Rattle.opt_rows.proofs.Finding.{PastRecords}
use Rattle.opt_rows.proofs.diet_names.find_nutrient.Given as goal

abbrev pub invariant-loop-d : goal.invariant-loop-d
invariant-loop-d l = PastRecords (λ _ need. nutrient_names_of l.tables need) l.needs l.d l.i l.rest
