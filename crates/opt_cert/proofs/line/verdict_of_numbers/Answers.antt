use Rattle.std.proofs.Common.{Err, refl, sym, ap, ◌∙◌, codes, cond, None}
use Rattle.std.proofs.lemmas.Result.{err_from_is_err_and}
use Rattle.opt_base.specs.declared.verdict.Verdict.TheVariants as verdict
use Rattle.std.specs.Str.{bytes_eq}
use Rattle.opt_cert.specs.Numbers.{plain_numeral}
use Rattle.opt_cert.specs.Forms.{both, best_form, numbers_form}
use Rattle.opt_cert.specs.Ranges.{objective_in_range, best_in_range, verdict_in_range}
use Rattle.opt_cert.specs.Judging.{ranged}
use Rattle.opt_cert.proofs.JudgeLemmas.{both_fails}
use Rattle.opt_cert.proofs.line.verdict_of_numbers.Goals as goal

pub returns-in_err-objective : goal.returns-in_err-objective
returns-in_err-objective c =
    let p = err_from_is_err_and c.from_residual.result c.from_residual.ensures.1 in
    let first = plain_numeral c.args.first.now in
    let second = plain_numeral c.args.second.now in
    let rest = cond (bytes_eq c.args.word.now (codes "unfinished")) (both verdict.Unfinished first (best_form c.args.second.now)) None in
    let whole = both_fails objective_in_range objective_in_range verdict.Plan verdict_in_range (λ a b. refl) first second c.objective.result c.objective-then-is.result c.in_err-objective.field-0.0 c.objective.ensures c.objective-then-is.ensures (sym c.both.ensures ∙ c.in_err-objective.was) in
    p.1 ∙ ap Err p.2 ∙ sym (ap (λ b. ranged verdict_in_range (cond b (both verdict.Plan first second) rest)) (sym c.is.ensures ∙ c.if-is.true) ∙ whole)

pub returns-in_err-bound : goal.returns-in_err-bound
returns-in_err-bound c =
    let p = err_from_is_err_and c.from_residual-in_err-bound.result c.from_residual-in_err-bound.ensures.1 in
    let first = plain_numeral c.args.first.now in
    let second = best_form c.args.second.now in
    let plan = both verdict.Plan first (plain_numeral c.args.second.now) in
    let found = both verdict.Unfinished first second in
    let whole = both_fails objective_in_range best_in_range verdict.Unfinished verdict_in_range (λ a b. refl) first second c.objective-then-is-2.result c.best.result c.in_err-bound.field-0.0 c.objective-then-is-2.ensures c.best.ensures (sym c.both-then-is-2.ensures ∙ c.in_err-bound.was) in
    p.1 ∙ ap Err p.2 ∙ sym (
    ap (λ b. ranged verdict_in_range (cond b plan (cond (bytes_eq c.args.word.now (codes "unfinished")) found None))) (sym c.is.ensures ∙ c.if-is.false)
    ∙ ap (λ b. ranged verdict_in_range (cond b found None)) (sym c.is-else-is.ensures ∙ c.if-is-2.true)
    ∙ whole)
