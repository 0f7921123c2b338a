-- the commodities so far
use Rattle.std.proofs.Common.{◌≡◌, ◌++◌, ◌∷◌, [], take, pos}
use Rattle.opt_model.specs.Quantities.{over}
use Rattle.opt_model.specs.declared.quantity.Quantity.TheVariants.{Keep}
use Rattle.opt_rows.specs.Gathering.{entries_of}
use Rattle.opt_rows.proofs.storage_rows.add_kept.Given as goal

abbrev pub invariant-loop-commodity : goal.invariant-loop-commodity
invariant-loop-commodity l = l.terms ≡ l.initial.terms ++ entries_of l.layout.quantities (over (take l.commodity l.tables.commodities) λ c _. (Keep l.place c l.month, pos 1) ∷ [])
