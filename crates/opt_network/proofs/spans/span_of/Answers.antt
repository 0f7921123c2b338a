use Rattle.std.proofs.Common.{◌<◌, length, pos, sym, ◌∙◌}
use Rattle.std.specs.Prelude.{nat_le, int_lt, ◌+◌}
use Rattle.opt_model.specs.Quantities.{is_offered, least_steps, most_steps}
use Rattle.opt_model.specs.declared.records.Need.{Need}
use Rattle.opt_model.specs.declared.records.Offer.{Offer}
use Rattle.opt_model.specs.declared.records.Arc.{Arc}
use Rattle.opt_model.specs.declared.records.Place.{Place}
use Rattle.opt_network.specs.Numbering.{has_record, has_month}
use Rattle.opt_network.proofs.Ranges.{of_record_there, of_record_at, record_there, first_there, commodity_there}
use Rattle.opt_network.proofs.spans.span_of.Goals as goal

pub returns-in-Ration-clause-low : goal.returns-in-Ration-clause-low
returns-in-Ration-clause-low c =
    let t = c.args.tables.now in
    let exists = rw c.in-Ration.is at c.requires.exists in
    let lt : c.in-Ration.commodity < length t.commodities = commodity_there t (has_record t.baskets c.in-Ration.basket) (has_month t c.in-Ration.month) c.in-Ration.commodity exists in
    rw c.in-Ration.is (c.steps.ensures.low ∙ sym (of_record_there t.commodities c.in-Ration.commodity c.index-commodities-commodity.result least_steps lt (rw c.commodities.ensures at c.index-commodities-commodity.is)))

pub returns-in-Ration-clause-high : goal.returns-in-Ration-clause-high
returns-in-Ration-clause-high c =
    let t = c.args.tables.now in
    let exists = rw c.in-Ration.is at c.requires.exists in
    let lt : c.in-Ration.commodity < length t.commodities = commodity_there t (has_record t.baskets c.in-Ration.basket) (has_month t c.in-Ration.month) c.in-Ration.commodity exists in
    rw c.in-Ration.is (c.steps.ensures.high ∙ sym (of_record_there t.commodities c.in-Ration.commodity c.index-commodities-commodity.result most_steps lt (rw c.commodities.ensures at c.index-commodities-commodity.is)))

pub returns-in-Short-clause-high : goal.returns-in-Short-clause-high
returns-in-Short-clause-high c =
    let t = c.args.tables.now in
    let exists = rw c.in-Short.is at c.requires.exists in
    let lt : c.in-Short.need < length t.needs = record_there t.needs c.in-Short.need (has_month t c.in-Short.month) exists in
    let top = rw c.needs.ensures at c.up_to.ensures.high in
    rw c.in-Short.is (top ∙ sym (of_record_at t.needs c.in-Short.need _ (λ (r : Need). r.max_short) lt))

pub returns-in-Buy-clause-high : goal.returns-in-Buy-clause-high
returns-in-Buy-clause-high c =
    let t = c.args.tables.now in
    let exists = rw c.in-Buy.is at c.requires.exists in
    let lt : c.in-Buy.offer < length t.offers = first_there (λ r. is_offered r c.in-Buy.month) t.offers c.in-Buy.offer (has_month t c.in-Buy.month) exists in
    let top = rw c.offers.ensures at c.up_to-in-Buy.ensures.high in
    rw c.in-Buy.is (top ∙ sym (of_record_at t.offers c.in-Buy.offer _ (λ (r : Offer). r.max_kg) lt))

pub returns-in-Ship-clause-high : goal.returns-in-Ship-clause-high
returns-in-Ship-clause-high c =
    let t = c.args.tables.now in
    let exists = rw c.in-Ship.is at c.requires.exists in
    let lt : c.in-Ship.arc < length t.arcs = first_there (λ r. nat_le (c.in-Ship.month + r.lead) t.settings.months) t.arcs c.in-Ship.arc _ exists in
    let top = rw c.arcs.ensures at c.up_to-in-Ship.ensures.high in
    rw c.in-Ship.is (top ∙ sym (of_record_at t.arcs c.in-Ship.arc _ (λ (r : Arc). r.capacity) lt))

pub returns-in-Keep-clause-high : goal.returns-in-Keep-clause-high
returns-in-Keep-clause-high c =
    let t = c.args.tables.now in
    let exists = rw c.in-Keep.is at c.requires.exists in
    let lt : c.in-Keep.place < length t.places = first_there (λ r. int_lt (pos 0) r.storage) t.places c.in-Keep.place _ exists in
    let top = rw c.places.ensures at c.up_to-in-Keep.ensures.high in
    rw c.in-Keep.is (top ∙ sym (of_record_at t.places c.in-Keep.place _ (λ (r : Place). r.storage) lt))
