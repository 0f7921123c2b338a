use Rattle.std.proofs.Common.{arith, w64}
use Rattle.std.proofs.lemmas.Int.{ints, to_z-of_z}
use mir.Val.{SFits}
use Rattle.toml.specs.Data.{get_member}
use Rattle.toml.specs.View.{table_view}
use Rattle.opt_read.specs.declared.key.Key.TheVariants as key
use Rattle.opt_read.specs.Keys.{key_name}
use Rattle.opt_read.proofs.SettingLaws.{amount_setting-is, budget_setting-is, days_setting-kept}
use Rattle.opt_read.proofs.toml_settings.setup.Goals as goal

pub invariant_of-result : goal.invariant_of-result
invariant_of-result c =
    let entries = table_view c.args.table.now in
    let kept = days_setting-kept entries c.in_ok-months.months c.in_ok-days.days.items c.in_ok-days.ensures in
    let gap = amount_setting-is entries key.Gap c.in_ok-gap.gap c.in_ok-gap.ensures in
    let fits : SFits w64 c.in_ok-gap.gap = omega (arith, ints, gap) in
    record {
      format = c.in_ok-format.ensures.bound;
      months = c.in_ok-months.ensures.bound;
      days = kept.0;
      day = kept.1;
      gap = rw to_z-of_z gap;
      nodes = c.in_ok-nodes.ensures.bound;
      budget = budget_setting-is (get_member (key_name key.Budget) entries) c.in_ok-budget.budget c.in_ok-budget.ensures;
    }
