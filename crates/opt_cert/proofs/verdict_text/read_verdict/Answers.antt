use Rattle.std.proofs.Common.{ap, ◌∙◌}
use Rattle.std.specs.Result.{result_ok}
use Rattle.opt_cert.specs.Forms.{verdict_form}
use Rattle.opt_cert.specs.Judging.{ranged}
use Rattle.opt_cert.specs.Ranges.{verdict_in_range}
use Rattle.opt_cert.proofs.VerdictLemmas.{found_text, found_ranges, none_found}
use Rattle.opt_cert.proofs.verdict_text.read_verdict.Goals as goal

pub returns-clause-some : goal.returns-clause-some
returns-clause-some c =
    found_text c.ok.result c.args.bytes.now (c.ok.ensures.value ∙ ap result_ok c.verdict.ensures ∙ ap (λ ws. result_ok (ranged verdict_in_range (verdict_form ws))) c.new.ensures.parts)

pub returns-clause-ranges : goal.returns-clause-ranges
returns-clause-ranges c =
    found_ranges c.ok.result c.args.bytes.now (c.ok.ensures.value ∙ ap result_ok c.verdict.ensures ∙ ap (λ ws. result_ok (ranged verdict_in_range (verdict_form ws))) c.new.ensures.parts)

pub returns-clause-none : goal.returns-clause-none
returns-clause-none c =
    none_found c.ok.result c.args.bytes.now (c.ok.ensures.value ∙ ap result_ok c.verdict.ensures ∙ ap (λ ws. result_ok (ranged verdict_in_range (verdict_form ws))) c.new.ensures.parts)
