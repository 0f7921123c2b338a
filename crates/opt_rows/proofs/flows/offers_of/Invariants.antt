-- what is sold so far
use Rattle.std.proofs.Common.{◌∷◌, [], ◌==◌, length, take}
use Rattle.opt_model.specs.Quantities.{over, list_if}
use Rattle.opt_rows.specs.Piles.{ArePiles}
use Rattle.opt_rows.proofs.flows.offers_of.Given as goal

abbrev pub invariant-loop-sale : goal.invariant-loop-sale
invariant-loop-sale l = ArePiles (length l.tables.commodities) (λ k. over (take l.sale-index l.sales) λ _ r. list_if (r.commodity == k) (r.offer ∷ [])) l.offers
