use Rattle.std.proofs.Common.{◌≡◌, pos, arith, to_z, of_z, w64}
use Rattle.std.proofs.lemmas.Int.{ints}
use Rattle.opt_model.specs.Quantities.{all_heads}
use Rattle.opt_model.specs.Settings.{days_of}
use Rattle.opt_network.proofs.Ranges.{person_days_within}
use Rattle.opt_network.proofs.spans.person_days.Goals as goal

pub overflow_mul-result : goal.overflow_mul-result
overflow_mul-result c =
    let t = c.args.tables.now in
    let heads : to_z w64 (of_z w64 c.all_heads.result) ≡ all_heads t c.args.place c.args.month = omega (arith, ints, c.all_heads.ensures.value, c.all_heads.ensures.low, c.all_heads.ensures.high) in
    let days : to_z w64 (of_z w64 c.days.result) ≡ pos (days_of t.settings c.args.month) = omega (arith, ints, c.days.ensures.value, c.days.ensures.low, c.days.ensures.high) in
    let within = person_days_within t c.requires.model c.args.place c.args.month in
    rw (heads, days) (omega (arith, ints, within.above, within.below))

pub returns : goal.returns
returns c =
    let t = c.args.tables.now in
    let heads : to_z w64 (of_z w64 c.all_heads.result) ≡ all_heads t c.args.place c.args.month = omega (arith, ints, c.all_heads.ensures.value, c.all_heads.ensures.low, c.all_heads.ensures.high) in
    let days : to_z w64 (of_z w64 c.days.result) ≡ pos (days_of t.settings c.args.month) = omega (arith, ints, c.days.ensures.value, c.days.ensures.low, c.days.ensures.high) in
    let within = person_days_within t c.requires.model c.args.place c.args.month in
    rw (heads, days) (record {
      value = omega (arith, ints, within.above, within.below);
      low = omega (arith, ints, within.above, within.below);
      high = omega (arith, ints, within.above, within.below);
    })
