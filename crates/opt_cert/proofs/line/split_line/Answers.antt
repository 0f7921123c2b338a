use Rattle.std.proofs.Common.{Err, refl, sym, ap, ◌∙◌}
use Rattle.std.specs.Option.{option_map, option_and_then}
use Rattle.std.proofs.lemmas.Result.{err_from_is_err_and}
use Rattle.opt_cert.specs.declared.cert_line.CertLine.TheVariants as line
use Rattle.opt_cert.specs.Numbers.{numeral, plain_numeral}
use Rattle.opt_cert.specs.Forms.{both}
use Rattle.opt_cert.specs.Ranges.{number_in_range, cut_value_in_range, is_in_range, is_in_order}
use Rattle.opt_cert.specs.Judging.{judged_line, ordered}
use Rattle.opt_cert.proofs.JudgeLemmas.{both_fails}
use Rattle.opt_cert.proofs.line.split_line.Goals as goal

pub returns-in_err-quantity : goal.returns-in_err-quantity
returns-in_err-quantity c =
    let p = err_from_is_err_and c.from_residual.result c.from_residual.ensures.1 in
    let quantity = numeral c.in-Some.quantity.now in
    let at = plain_numeral c.in-Some.at.now in
    let halves = sym c.two.ensures ∙ ap (option_map (λ p. (p.0.now, p.1.now))) c.in-Some.is in
    let whole = both_fails number_in_range cut_value_in_range line.Split is_in_range (λ a b. refl) quantity at c.number.result c.cut_value.result c.in_err-quantity.field-0.0 c.number.ensures c.cut_value.ensures (sym c.both.ensures ∙ c.in_err-quantity.was) in
    p.1 ∙ ap Err p.2 ∙ sym (ap (λ o. judged_line (option_and_then (λ p. both line.Split (numeral p.0) (plain_numeral p.1)) o)) halves ∙ ap (ordered is_in_order) whole)
