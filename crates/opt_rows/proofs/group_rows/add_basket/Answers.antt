use Rattle.std.proofs.Common.{◌≡◌, ◌<◌, length, get_or, ◌∙◌, arith}
use Rattle.opt_model.specs.Quantities.{over_months}
use Rattle.opt_tables.specs.Facts.{IsGroup}
use Rattle.opt_rows.specs.Parts.{group_pair}
use Rattle.opt_rows.proofs.CostSizes.{at_there}
use Rattle.opt_rows.proofs.RowSteps.{record_rows}
use Rattle.opt_rows.proofs.group_rows.add_basket.Goals as goal

pub loop-number-preserved : goal.loop-number-preserved
loop-number-preserved c =
    let t = c.args.tables.now in
    let one = c.index-groups-number.result in
    let within : c.loop-number.number < length t.groups = omega (arith, c.loop-number-test.true, c.group_count-number-end.ensures) in
    let is : one ≡ get_or t.groups c.loop-number.number one = rw c.groups-groups.ensures at c.index-groups-number.is in
    record_rows c.args.layout.now.quantities _ _ _ (λ g x. over_months t (group_pair t c.args.basket g x)) t.groups _ one within is c.loop-number.invariant c.in_ok-add_months.ensures

pub add_months-requires-clause-high : goal.add_months-requires-clause-high
add_months-requires-clause-high c =
    let t = c.args.tables.now in
    let one = c.index-groups-number.result in
    let within : c.loop-number.number < length t.groups = omega (arith, c.loop-number-test.true, c.group_count-number-end.ensures) in
    let is : one ≡ get_or t.groups c.loop-number.number one = rw c.groups-groups.ensures at c.index-groups-number.is in
    (at_there IsGroup t.groups c.loop-number.number one (record { within = within; is = is }) c.requires.model.groups).max_g.above

pub pile-requires : goal.pile-requires
pile-requires c = omega (arith, c.loop-number-test.true, c.group_count-number-end.ensures, c.requires.members.each)

pub add_months-requires-clause-members : goal.add_months-requires-clause-members
add_months-requires-clause-members c =
    let within : c.loop-number.number < length c.args.tables.now.groups = omega (arith, c.loop-number-test.true, c.group_count-number-end.ensures) in
    c.pile.ensures ∙ c.requires.members.filled c.loop-number.number within
