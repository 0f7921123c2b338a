use Rattle.std.proofs.Common.{◌≡◌, ◌-ℤ◌, rules}
use Rattle.std.specs.Fmt.{signed_decimal}
use Rattle.opt_report.specs.Summaries.{goal_word}
use Rattle.opt_report.proofs.summary.plan_summary.Goals as goal

pub returns : goal.returns
returns c =
    let bound : c.deref.result.now ≡ signed_decimal c.args.bound.now = search rules in
    let gap : c.deref-2.result.now ≡ signed_decimal (c.args.objective.now -ℤ c.args.bound.now) = search rules in
    let objective : c.deref-3.result.now ≡ signed_decimal c.args.objective.now = search rules in
    rw (← bound, ← gap, ← objective, ← c.goal_word.ensures) c.plan_object.ensures
