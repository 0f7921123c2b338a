use Rattle.std.proofs.Common.{◌≡◌, pos, arith, to_z, of_z, w64}
use Rattle.std.proofs.lemmas.Int.{ints}
use Rattle.opt_model.specs.Settings.{days_of}
use Rattle.opt_model.specs.Tables.{heads_at}
use Rattle.opt_rows.proofs.TableRanges.{person_days_within}
use Rattle.opt_rows.proofs.handout_rows.person_days.Goals as goal

pub overflow_mul-result : goal.overflow_mul-result
overflow_mul-result c =
    let t = c.args.tables.now in
    let spot = c.args.spot in
    let heads : to_z w64 (of_z w64 c.heads.result) ≡ heads_at t spot.place c.args.basket spot.month = omega (arith, ints, c.heads.ensures.value, c.heads.ensures.range.above, c.heads.ensures.range.below) in
    let days : to_z w64 (of_z w64 c.days.result) ≡ pos (days_of t.settings spot.month) = omega (arith, ints, c.days.ensures.value, c.days.ensures.range.above, c.days.ensures.range.below) in
    let within = person_days_within t c.requires.model spot.place c.args.basket spot.month in
    rw (heads, days) (omega (arith, ints, within.above, within.below))

pub returns : goal.returns
returns c =
    let t = c.args.tables.now in
    let spot = c.args.spot in
    let heads : to_z w64 (of_z w64 c.heads.result) ≡ heads_at t spot.place c.args.basket spot.month = omega (arith, ints, c.heads.ensures.value, c.heads.ensures.range.above, c.heads.ensures.range.below) in
    let days : to_z w64 (of_z w64 c.days.result) ≡ pos (days_of t.settings spot.month) = omega (arith, ints, c.days.ensures.value, c.days.ensures.range.above, c.days.ensures.range.below) in
    let within = person_days_within t c.requires.model spot.place c.args.basket spot.month in
    rw (heads, days) (record {
      value = omega (arith, ints, within.above, within.below);
      range = record { above = omega (arith, ints, within.above, within.below); below = omega (arith, ints, within.above, within.below) };
    })
