use Rattle.std.proofs.Common.{◌≡◌, map, drop}
use Rattle.opt_read.specs.Settings.{all_there, integer_between}
use Rattle.opt_read.specs.declared.limits.TheConstants.{DAY_LIMIT}
use Rattle.opt_read.proofs.SettingLemmas.{then}
use Rattle.toml.specs.View.{view}
use Rattle.opt_read.proofs.toml_settings.all_days.Given as goal

abbrev pub invariant-loop-value : goal.invariant-loop-value
invariant-loop-value l =
    then l.days.items (all_there (map (λ value. integer_between 0 DAY_LIMIT (view value)) (drop l.value-index l.values)))
    ≡ all_there (map (λ value. integer_between 0 DAY_LIMIT (view value)) l.values)
