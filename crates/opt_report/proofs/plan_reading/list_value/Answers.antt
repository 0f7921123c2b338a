use Rattle.std.proofs.Common.{◌≡◌, arith, to_z, of_z, w64}
use Rattle.std.proofs.lemmas.Int.{ints}
use Rattle.opt_model.specs.Quantities.{low, high}
use Rattle.opt_tables.specs.Facts.{IsFrom}
use Rattle.opt_report.proofs.Listing.{exists, listed_more}
use Rattle.opt_report.proofs.plan_reading.list_value.Goals as goal

pub unit_of-requires : goal.unit_of-requires
unit_of-requires c = exists c.args.tables.now c.args.quantity c.args.number c.requires.number

pub returns-clause-listed : goal.returns-clause-listed
returns-clause-listed c =
    let t = c.args.tables.now in
    let z = c.in_ok-value.value in
    let span = c.span_of-span.ensures in
    let is : IsFrom (low t c.args.quantity) (high t c.args.quantity) z =
    record { above = omega (arith, ints, c.in_ok-value.ensures.within.above, span.low); below = omega (arith, ints, c.in_ok-value.ensures.within.below, span.high) }
    in
    let same : to_z w64 (of_z w64 z) ≡ z = omega (arith, ints, is.above, is.below, span.low, span.high, span.span.from_zero, span.span.small) in
    rw same (listed_more t c.args.quantity c.args.number c.requires.number c.args.listed.now.items z c.requires.listed is)
