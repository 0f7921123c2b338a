use Rattle.std.proofs.Common.{◌≡◌, ◌<◌, ◌++◌, ◌∷◌, [], length, length-append, ap, ◌∙◌, arith, Err, to_z, of_z, w64}
use Rattle.std.proofs.lemmas.Int.{ints}
use Rattle.opt_model.specs.Quantities.{quantities}
use Rattle.opt_model.specs.declared.quantity.Quantity.TheVariants.{Short}
use Rattle.opt_report.specs.PlanFiles.{values_of}
use Rattle.opt_report.proofs.Listing.{same_quantities}
use Rattle.opt_report.proofs.ReadRows.{refused_gives, values_go_on, values_fail, value_within, value_small, within_more}
use Rattle.opt_report.proofs.plan_reading.values.Goals as goal

pub returns-in_err-value_of-clause-exact : goal.returns-in_err-value_of-clause-exact
returns-in_err-value_of-clause-exact c =
    let t = c.args.tables.now in
    let layout = c.args.layout.now in
    let i = c.loop-i.i in
    let size : length layout.quantities ≡ length (quantities t) = ap length (same_quantities t layout c.requires.layout) in
    let lt : i < length (quantities t) = omega (arith, c.len-i-end.ensures.value, c.loop-i-test.true, size) in
    let failed : values_of t c.args.listed.now ≡ Err c.in_err-value_of.field-0.0 =
    values_fail t layout c.requires.layout c.len-i-end.ensures.numbering c.args.listed.now c.requires.listed i lt (Short 0 0) c.loop-i.values.items c.in_err-value_of.field-0.0
    (values_of t c.args.listed.now) c.in_err-value_of.ensures c.loop-i.invariant.whole
    in
    refused_gives (λ point. point) c.from_residual.result (values_of t c.args.listed.now) c.in_err-value_of.field-0.0 c.from_residual.ensures.1 failed

pub loop-i-preserved : goal.loop-i-preserved
loop-i-preserved c =
    let t = c.args.tables.now in
    let layout = c.args.layout.now in
    let listed = c.args.listed.now in
    let i = c.loop-i.i in
    let z = c.in_ok-value_of.field-0 in
    let made = c.loop-i.values.items in
    let more = c.push.new.self.items in
    let size : length layout.quantities ≡ length (quantities t) = ap length (same_quantities t layout c.requires.layout) in
    let lt : i < length (quantities t) = omega (arith, c.len-i-end.ensures.value, c.loop-i-test.true, size) in
    let small = value_small t layout c.requires.layout c.len-i-end.ensures.numbering listed c.requires.listed i lt (Short 0 0) z c.in_ok-value_of.ensures in
    let within = value_within t layout c.requires.layout c.len-i-end.ensures.numbering listed c.requires.listed i lt (Short 0 0) z c.in_ok-value_of.ensures in
    let same : to_z w64 (of_z w64 z) ≡ z = omega (arith, ints, small.above, small.below) in
    let next : more ≡ made ++ z ∷ [] = c.in_ok-push.ensures.items ∙ ap (λ y. made ++ y ∷ []) same in
    record {
      whole = values_go_on t layout c.requires.layout c.len-i-end.ensures.numbering listed c.requires.listed i lt (Short 0 0) made more z (values_of t listed) c.in_ok-value_of.ensures next
          c.loop-i.invariant.whole;
      count = omega (arith, ap length next, length-append made (z ∷ []), c.loop-i.invariant.count);
      within = within_more t made more i z c.loop-i.invariant.count next c.loop-i.invariant.within within;
    }
