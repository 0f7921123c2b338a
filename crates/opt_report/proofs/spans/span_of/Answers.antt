use Rattle.std.proofs.Common.{◌≡◌, ap, ◌∙◌, arith}
use Rattle.std.proofs.lemmas.Int.{ints}
use Rattle.opt_model.specs.Quantities.{low, high}
use Rattle.opt_network.specs.Numbering.{IsSpan}
use Rattle.opt_network.proofs.Ranges.{span_within}
use Rattle.opt_sums.specs.Sums.{at}
use Rattle.opt_report.proofs.Listing.{at_number, same_lows, same_highs}
use Rattle.opt_report.proofs.spans.span_of.Goals as goal

pub returns-clause-low : goal.returns-clause-low
returns-clause-low c =
    let t = c.args.tables.now in
    let span : IsSpan (low t c.args.quantity) (high t c.args.quantity) = span_within t c.settings-settings.ensures.model c.args.quantity in
    let same : c.range-low.result.0 ≡ low t c.args.quantity =
    c.range-low.ensures.low
    ∙ (ap (λ lows. at lows c.args.number) (same_lows t c.args.layout.now c.requires.layout) ∙ at_number t c.args.quantity c.args.number c.requires.number (low t))
    in
    omega (arith, ints, same, span.from_zero, span.rising, span.small)

pub returns-clause-high : goal.returns-clause-high
returns-clause-high c =
    let t = c.args.tables.now in
    let span : IsSpan (low t c.args.quantity) (high t c.args.quantity) = span_within t c.settings-settings.ensures.model c.args.quantity in
    let same : c.range-low.result.1 ≡ high t c.args.quantity =
    c.range-low.ensures.high
    ∙ (ap (λ highs. at highs c.args.number) (same_highs t c.args.layout.now c.requires.layout) ∙ at_number t c.args.quantity c.args.number c.requires.number (high t))
    in
    omega (arith, ints, same, span.from_zero, span.rising, span.small)

pub returns-clause-span : goal.returns-clause-span
returns-clause-span c =
    let lowest = returns-clause-low c in
    let highest = returns-clause-high c in
    rw (lowest, highest) (span_within c.args.tables.now c.settings-settings.ensures.model c.args.quantity)
