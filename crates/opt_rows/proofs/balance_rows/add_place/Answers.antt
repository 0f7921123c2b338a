use Rattle.std.proofs.Common.{ℕ, length, List, ap, ◌∙◌, subst, sym, arith}
use Rattle.opt_rows.specs.declared.flows.Sale.{Sale}
use Rattle.opt_rows.specs.Listed.{offers_of}
use Rattle.opt_rows.specs.Piles.{ArePiles}
use Rattle.opt_rows.proofs.balance_rows.add_place.Goals as goal

pub sales-requires : goal.sales-requires
sales-requires c = omega (arith, c.requires.network.sales.each, c.requires.place)

pub add_offered-requires-clause-offers : goal.add_offered-requires-clause-offers
add_offered-requires-clause-offers c =
    subst (λ (sales : List Sale). ArePiles (length c.args.tables.now.commodities) (offers_of sales) c.in_ok-offers.offers)
    (c.sales.ensures ∙ c.requires.network.sales.filled c.args.place c.requires.place) c.in_ok-offers.ensures
