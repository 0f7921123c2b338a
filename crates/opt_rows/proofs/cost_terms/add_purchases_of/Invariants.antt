-- the months so far
use Rattle.std.proofs.Common.{◌≡◌, ◌++◌, ◌∷◌, []}
use Rattle.std.specs.List.{flat_map, range_with_len}
use Rattle.opt_model.specs.declared.quantity.Quantity.TheVariants.{Buy}
use Rattle.opt_rows.specs.Gathering.{entries_of}
use Rattle.opt_rows.proofs.cost_terms.add_purchases_of.Given as goal

abbrev pub invariant-loop-earlier : goal.invariant-loop-earlier
invariant-loop-earlier l = l.terms ≡ l.initial.terms ++ entries_of l.layout.quantities (flat_map (λ m. (Buy l.number m, l.offer.price) ∷ []) (range_with_len 1 l.earlier))
