-- the commodities so far
use Rattle.std.proofs.Common.{◌≡◌, ◌++◌, take}
use Rattle.opt_model.specs.Quantities.{over}
use Rattle.opt_model.specs.Rows.{arrived_terms}
use Rattle.opt_rows.specs.Gathering.{entries_of}
use Rattle.opt_rows.proofs.throughput_rows.add_all_arrivals.Given as goal

abbrev pub invariant-loop-commodity : goal.invariant-loop-commodity
invariant-loop-commodity l =
    l.terms ≡ l.initial.terms ++ entries_of l.layout.quantities (over (take l.commodity l.tables.commodities) λ n _. arrived_terms l.tables l.intake.place n l.month)
