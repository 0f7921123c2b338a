-- the contents so far
use Rattle.std.proofs.Common.{◌≡◌, ◌++◌, ◌∷◌, [], take}
use Rattle.std.specs.List.{flat_map}
use Rattle.opt_model.specs.declared.quantity.Quantity.TheVariants.{Ration}
use Rattle.opt_rows.specs.Gathering.{entries_of}
use Rattle.opt_rows.proofs.nutrient_rows.add_contents.Given as goal

abbrev pub invariant-loop-content : goal.invariant-loop-content
invariant-loop-content l =
    l.terms ≡ l.initial.terms ++ entries_of l.layout.quantities (flat_map (λ r. (Ration l.basket r.commodity l.month, r.units) ∷ []) (take l.content-index l.contents))
