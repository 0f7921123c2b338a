use Rattle.std.proofs.Common.{ap, List, ℕ, Option}
use Rattle.opt_read.specs.Settings.{or_out_of_range}
use Rattle.opt_read.specs.declared.key.Key.TheVariants as key
use Rattle.opt_read.proofs.ReadLemmas.{same-reading}
use Rattle.opt_read.proofs.SettingLemmas.{day_list-is}
use Rattle.opt_read.proofs.toml_settings.days.Goals as goal

pub returns-then-values-months : goal.returns-then-values-months
returns-then-values-months c =
    same-reading _ _ _ _ (ap (λ (days : Option (List ℕ)). or_out_of_range key.Days days) (day_list-is c.args.months c.args.values.now c.if-values-months.true)) c.all_days.ensures
