use Rattle.std.proofs.Common.{◌≡◌, ap, arith}
use Rattle.std.proofs.lemmas.Int.{ints}
use Rattle.opt_model.specs.Settings.{days_of}
use Rattle.opt_network.proofs.Ranges.{days_within}
use Rattle.opt_rows.proofs.handout_rows.days.Goals as goal

pub returns-clause-range : goal.returns-clause-range
returns-clause-range c =
    let within = days_within c.args.tables.now.settings c.settings.ensures.model.settings c.args.month in
    let same : days_of c.settings.result.now c.args.month ≡ days_of c.args.tables.now.settings c.args.month = ap (λ s. days_of s c.args.month) c.settings.ensures.value in
    record { above = omega (arith, ints, c.days.ensures, c.from.ensures); below = omega (arith, ints, within.below, same, c.days.ensures, c.from.ensures) }
