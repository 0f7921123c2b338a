-- the offers so far
use Rattle.std.proofs.Common.{◌∷◌, [], ◌==◌, ◌&&◌, length, take}
use Rattle.opt_model.specs.Quantities.{over, list_if}
use Rattle.opt_rows.specs.Listed.{begins_in_plan, sale_of}
use Rattle.opt_rows.specs.Piles.{ArePiles}
use Rattle.opt_rows.proofs.flows.sales_of.Given as goal

abbrev pub invariant-loop-number : goal.invariant-loop-number
invariant-loop-number l =
    ArePiles (length l.tables.places) (λ p. over (take l.number l.tables.offers) λ n offer. list_if ((offer.place == p) && begins_in_plan l.tables offer) (sale_of n offer ∷ [])) l.sales
