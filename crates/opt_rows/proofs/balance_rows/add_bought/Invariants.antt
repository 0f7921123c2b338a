-- the offers so far
use Rattle.std.proofs.Common.{◌≡◌, ◌++◌, ◌∷◌, [], take, pos}
use Rattle.std.specs.List.{flat_map}
use Rattle.opt_model.specs.declared.quantity.Quantity.TheVariants.{Buy}
use Rattle.opt_rows.specs.Gathering.{entries_of}
use Rattle.opt_rows.proofs.balance_rows.add_bought.Given as goal

abbrev pub invariant-loop-offer : goal.invariant-loop-offer
invariant-loop-offer l = l.terms ≡ l.initial.terms ++ entries_of l.layout.quantities (flat_map (λ o. (Buy o l.month, pos 1) ∷ []) (take l.offer-index l.offers))
