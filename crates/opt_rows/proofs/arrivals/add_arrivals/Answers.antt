use Rattle.std.proofs.Common.{◌∷◌, [], pos, refl}
use Rattle.std.specs.Prelude.{◌-◌, nat_lt}
use Rattle.opt_model.specs.Quantities.{list_if}
use Rattle.opt_model.specs.declared.quantity.Quantity.TheVariants.{Ship}
use Rattle.opt_rows.proofs.RowSteps.{read_at}
use Rattle.opt_rows.proofs.ListedTerms.{listed_terms}
use Rattle.opt_rows.proofs.arrivals.add_arrivals.Goals as goal

pub loop-arrival-preserved : goal.loop-arrival-preserved
loop-arrival-preserved c =
    let spot = c.args.spot in
    listed_terms c.args.layout.now.quantities _ _ _ (λ arrival. list_if (nat_lt arrival.lead spot.month) ((Ship arrival.arc spot.commodity (spot.month - arrival.lead), pos 1) ∷ []))
    c.args.arrivals.now c.loop-arrival.arrival-index _ c.loop-arrival-test.true (read_at c.args.arrivals.now c.args.arrivals.now c.loop-arrival.arrival-index _ refl c.loop-arrival-test.true) c.loop-arrival.invariant c.in_ok-add_arrival.ensures
