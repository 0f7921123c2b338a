use Rattle.std.proofs.Common.{map}
use Rattle.toml.specs.View.{table_view, view}
use Rattle.opt_read.proofs.ReadLemmas.{same-reading}
use Rattle.opt_read.proofs.SettingLemmas.{days_setting-is}
use Rattle.opt_read.proofs.toml_settings.days_setting.Goals as goal

pub returns-in-Some : goal.returns-in-Some
returns-in-Some c =
    same-reading _ _ _ _ (days_setting-is (table_view c.args.table.now) c.args.months (view c.in_ok-value.value.now) (map view c.in-Some.values.now.items) c.in_ok-value.ensures c.in-Some.ensures) (rw c.deref.ensures.value at c.days.ensures)
