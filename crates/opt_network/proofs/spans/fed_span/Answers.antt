use Rattle.std.proofs.Common.{◌≡◌, ◌<◌, ◌*ℤ◌, length, pos, ap, sym, subst, arith, to_z, of_z, w64}
use Rattle.std.proofs.lemmas.Int.{ints}
use Rattle.opt_model.specs.Settings.{days_of}
use Rattle.opt_model.specs.Quantities.{all_heads, ceil_div, most_grams, most_steps}
use Rattle.opt_model.specs.declared.records.Commodity.{Commodity}
use Rattle.opt_tables.specs.Facts.{IsCommodity}
use Rattle.opt_network.specs.Numbering.{has_month}
use Rattle.opt_network.proofs.Ranges.{of_record_there, commodity_there, grams_of_within, kilograms_small}
use Rattle.opt_network.proofs.spans.fed_span.Goals as goal

pub most_kilograms-requires-clause-small : goal.most_kilograms-requires-clause-small
most_kilograms-requires-clause-small c =
    let t = c.args.tables.now in
    let one = c.index-commodities-commodity.result in
    let lt : c.args.commodity < length t.commodities = commodity_there t _ (has_month t c.args.month) c.args.commodity c.requires.exists in
    let read = rw c.commodities.ensures at c.index-commodities-commodity.is in
    let is : IsCommodity one = subst IsCommodity (sym read) (c.requires.model.commodities c.args.commodity one lt) in
    let days : to_z w64 (of_z w64 c.person_days.result) ≡ all_heads t c.args.place c.args.month *ℤ pos (days_of t.settings c.args.month) =
    omega (arith, ints, c.person_days.ensures.value, c.person_days.ensures.low, c.person_days.ensures.high) in
    rw days (grams_of_within t c.requires.model c.args.place c.args.month one is)

pub returns-clause-high : goal.returns-clause-high
returns-clause-high c =
    let t = c.args.tables.now in
    let one = c.index-commodities-commodity.result in
    let lt : c.args.commodity < length t.commodities = commodity_there t _ (has_month t c.args.month) c.args.commodity c.requires.exists in
    let read = rw c.commodities.ensures at c.index-commodities-commodity.is in
    let is : IsCommodity one = subst IsCommodity (sym read) (c.requires.model.commodities c.args.commodity one lt) in
    let heads = all_heads t c.args.place c.args.month *ℤ pos (days_of t.settings c.args.month) in
    let days : to_z w64 (of_z w64 c.person_days.result) ≡ heads = omega (arith, ints, c.person_days.ensures.value, c.person_days.ensures.low, c.person_days.ensures.high) in
    let grams = heads *ℤ (one.step_g *ℤ most_steps one) in
    let all : most_grams t c.args.place c.args.commodity c.args.month ≡ grams =
    of_record_there t.commodities c.args.commodity one (λ (r : Commodity). heads *ℤ (r.step_g *ℤ most_steps r)) lt read in
    let span = kilograms_small grams (grams_of_within t c.requires.model c.args.place c.args.month one is) in
    let made = rw days at c.most_kilograms.ensures in
    let same : ceil_div (most_grams t c.args.place c.args.commodity c.args.month) (pos 1000) ≡ ceil_div grams (pos 1000) = ap (λ z. ceil_div z (pos 1000)) all in
    omega (arith, ints, c.up_to.ensures.high, made, same, span.rising, span.small)

pub most_kilograms-requires-clause-commodity : goal.most_kilograms-requires-clause-commodity
most_kilograms-requires-clause-commodity c =
    let t = c.args.tables.now in
    let one = c.index-commodities-commodity.result in
    let lt : c.args.commodity < length t.commodities = commodity_there t _ (has_month t c.args.month) c.args.commodity c.requires.exists in
    let read = rw c.commodities.ensures at c.index-commodities-commodity.is in
    subst IsCommodity (sym read) (c.requires.model.commodities c.args.commodity one lt)
