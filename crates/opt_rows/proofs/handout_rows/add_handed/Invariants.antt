-- the baskets so far
use Rattle.std.proofs.Common.{◌≡◌, ◌++◌, ◌∷◌, [], take}
use Rattle.opt_model.specs.Quantities.{over}
use Rattle.opt_model.specs.declared.quantity.Quantity.TheVariants.{Ration}
use Rattle.opt_rows.specs.Gathering.{entries_of}
use Rattle.opt_rows.specs.Parts.{handed_grams}
use Rattle.opt_rows.proofs.handout_rows.add_handed.Given as goal

abbrev pub invariant-loop-basket : goal.invariant-loop-basket
invariant-loop-basket l =
    l.terms ≡ l.initial.terms ++ entries_of l.layout.quantities (over (take l.basket l.tables.baskets) λ b _.
    (Ration b l.spot.commodity l.spot.month, handed_grams l.tables l.spot.place l.spot.commodity l.spot.month b) ∷ [])
