-- the months so far
use Rattle.std.proofs.Common.{◌≡◌, ◌++◌, ◌∷◌, []}
use Rattle.std.specs.List.{flat_map, range_with_len}
use Rattle.opt_model.specs.declared.quantity.Quantity.TheVariants.{Short}
use Rattle.opt_rows.specs.Gathering.{entries_of}
use Rattle.opt_rows.proofs.goal_rows.add_lack.Given as goal

abbrev pub invariant-loop-earlier : goal.invariant-loop-earlier
invariant-loop-earlier l = l.terms ≡ l.initial.terms ++ entries_of l.layout.quantities (flat_map (λ m. (Short l.number m, l.need.weight) ∷ []) (range_with_len 1 l.earlier))
