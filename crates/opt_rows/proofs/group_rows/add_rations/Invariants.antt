-- the commodities so far
use Rattle.std.proofs.Common.{◌≡◌, ◌++◌, ◌∷◌, [], take}
use Rattle.std.specs.List.{flat_map}
use Rattle.opt_model.specs.declared.quantity.Quantity.TheVariants.{Ration}
use Rattle.opt_rows.specs.Gathering.{entries_of}
use Rattle.opt_rows.proofs.group_rows.add_rations.Given as goal

abbrev pub invariant-loop-member : goal.invariant-loop-member
invariant-loop-member l =
    l.terms ≡ l.initial.terms ++ entries_of l.layout.quantities (flat_map (λ r. (Ration l.basket r.commodity l.month, r.step_g) ∷ []) (take l.member-index l.members))
