use Rattle.std.proofs.Common.{◌≡◌}
use Rattle.std.proofs.lemmas.Result.{on_ok_weaker}
use Rattle.opt_model.specs.Texts.{outcome_line}
use Rattle.optimus.specs.Verdicts.{nodes_of}
use Rattle.optimus.proofs.Outcomes.{summed_outcome, within_outcome, outcome_added}
use Rattle.optimus.proofs.outcome_reply.add_outcome.Goals as goal

pub add_plan_file-requires : goal.add_plan_file-requires
add_plan_file-requires c = within_outcome c.args.problem.now c.args.outcome.now c.requires

pub add_summary-requires : goal.add_summary-requires
add_summary-requires c = summed_outcome c.args.problem.now c.args.outcome.now c.requires

pub line_of_verdict-requires : goal.line_of_verdict-requires
line_of_verdict-requires c = summed_outcome c.args.problem.now c.args.outcome.now c.requires

pub returns : goal.returns
returns c =
    let same : c.as_bytes.result.now ≡ outcome_line c.args.outcome.now.verdict (nodes_of c.args.outcome.now) = cc (c.in_ok-line.ensures) in
    on_ok_weaker c.print.result
    (λ printed. outcome_added c.args.folder.now c.args.problem.now c.args.outcome.now c.args.reply.now c.add_certificate.new.reply c.add_plan_file.new.reply
    c.add_summary.new.reply c.print.new.self c.as_bytes.result.now c.in_ok-add_certificate.ensures c.in_ok-add_plan_file.ensures c.in_ok-add_summary.ensures
    printed same)
    c.print.ensures.ok
