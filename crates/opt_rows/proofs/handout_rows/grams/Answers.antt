use Rattle.std.proofs.Common.{◌≡◌, ◌*ℤ◌, pos, arith, to_z, of_z, w64}
use Rattle.std.proofs.lemmas.Int.{ints}
use Rattle.opt_model.specs.Settings.{days_of}
use Rattle.opt_model.specs.Tables.{heads_at}
use Rattle.opt_model.specs.Quantities.{step_of}
use Rattle.opt_rows.proofs.TableRanges.{grams_within}
use Rattle.opt_rows.proofs.handout_rows.grams.Goals as goal

pub overflow_mul-result : goal.overflow_mul-result
overflow_mul-result c =
    let t = c.args.tables.now in
    let spot = c.args.spot in
    let days : to_z w64 (of_z w64 c.person_days.result) ≡ heads_at t spot.place c.args.basket spot.month *ℤ pos (days_of t.settings spot.month) =
    omega (arith, ints, c.person_days.ensures.value, c.person_days.ensures.range.above, c.person_days.ensures.range.below) in
    let step : to_z w64 (of_z w64 c.step_of.result) ≡ step_of t spot.commodity = omega (arith, ints, c.step_of.ensures.value, c.step_of.ensures.range.above, c.step_of.ensures.range.below) in
    let within = grams_within t c.requires.model spot.place spot.commodity spot.month c.args.basket in
    rw (days, step) (omega (arith, ints, within.above, within.below))

pub returns : goal.returns
returns c =
    let t = c.args.tables.now in
    let spot = c.args.spot in
    let days : to_z w64 (of_z w64 c.person_days.result) ≡ heads_at t spot.place c.args.basket spot.month *ℤ pos (days_of t.settings spot.month) =
    omega (arith, ints, c.person_days.ensures.value, c.person_days.ensures.range.above, c.person_days.ensures.range.below) in
    let step : to_z w64 (of_z w64 c.step_of.result) ≡ step_of t spot.commodity = omega (arith, ints, c.step_of.ensures.value, c.step_of.ensures.range.above, c.step_of.ensures.range.below) in
    let within = grams_within t c.requires.model spot.place spot.commodity spot.month c.args.basket in
    rw (days, step) (record {
      value = omega (arith, ints, within.above, within.below);
      range = record { above = omega (arith, ints, within.above, within.below); below = omega (arith, ints, within.above, within.below) };
    })
