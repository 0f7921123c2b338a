use Rattle.std.proofs.Common.{◌≡◌, ◌∙◌, ℕ, List, Option, Some, None, get_or, sym, ap}
use Rattle.opt_read.specs.Settings.{or_out_of_range, integer_between}
use Rattle.opt_read.specs.declared.key.Key.TheVariants as key
use Rattle.opt_read.specs.declared.limits.TheConstants.{DAY_LIMIT}
use Rattle.toml.specs.View.{view}
use Rattle.toml.specs.declared.value.Value.{Value}
use Rattle.opt_read.proofs.SettingLemmas.{then-none, there-end, there-more, there-not}
use Rattle.opt_read.proofs.toml_settings.all_days.Goals as goal

-- the day that a value is
abbrev day : Value → Option ℕ
day value = integer_between 0 DAY_LIMIT (view value)

pub loop-value-init : goal.loop-value-init
loop-value-init c = rw c.new-days.ensures.items (then-none _)

pub returns-in-None : goal.returns-in-None
returns-in-None c =
    let lacks : day (get_or c.args.values.now c.loop-value.value-index c.value-item.result) ≡ None = rw (← c.value-item.is) (sym c.in-None.ensures.value) in
    let none = sym c.loop-value.invariant ∙ there-not day c.args.values.now c.loop-value.value-index c.loop-value.days.items c.value-item.result c.loop-value-test.true lacks in
    rw c.out_of_range.ensures (ap (λ (days : Option (List ℕ)). or_out_of_range key.Days days) none)

pub loop-value-preserved : goal.loop-value-preserved
loop-value-preserved c =
    let there : day (get_or c.args.values.now c.loop-value.value-index c.value-item.result) ≡ Some c.in-Some.day = rw (← c.value-item.is) (sym c.in-Some.ensures.value) in
    rw c.in_ok-push-in-Some.ensures.items (
    sym (there-more day c.args.values.now c.loop-value.value-index c.loop-value.days.items c.in-Some.day c.value-item.result c.loop-value-test.true there)
    ∙ c.loop-value.invariant
    )

pub returns : goal.returns
returns c =
    ap (λ (days : Option (List ℕ)). or_out_of_range key.Days days) (sym c.loop-value.invariant ∙ there-end day c.args.values.now c.loop-value.value-index c.loop-value.days.items c.loop-value-test.false)
