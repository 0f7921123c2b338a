use Rattle.std.proofs.Common.{◌≡◌, Err, sym, subst}
use Rattle.opt_check.specs.declared.bytes_fault.BytesFault.{BytesFault}
use Rattle.opt_check.specs.Lines.{cert_fault_line, check_fault_line}
use Rattle.opt_reply.specs.Answer.{Answer}
use Rattle.optimus.specs.Answers.{refused_with}
use Rattle.optimus.specs.Checking.{IsAnswerTo}
use Rattle.optimus.proofs.Certificates.{answered_by, small_printed, small_refused}
use Rattle.optimus.proofs.checking.check_text.Goals as goal

pub verdict_reply-requires : goal.verdict_reply-requires
verdict_reply-requires c = c.in-Ok.ensures.summed

pub returns-in-Ok-clause-checks : goal.returns-in-Ok-clause-checks
returns-in-Ok-clause-checks c =
    answered_by _ _ c.verdict_reply.result (λ answer same. c.in-Ok.ensures.checks answer same) c.verdict_reply.ensures

pub returns-in-Ok-clause-status : goal.returns-in-Ok-clause-status
returns-in-Ok-clause-status c = small_printed c.in-Ok.verdict c.in-Ok.nodes c.verdict_reply.result c.verdict_reply.ensures

pub returns-in-Err-Cert-clause-checks : goal.returns-in-Err-Cert-clause-checks
returns-in-Err-Cert-clause-checks c =
    answered_by _ _ c.reply_to_cert_fault.result
    (λ (answer : Answer) (same : answer ≡ refused_with (cert_fault_line c.in-Err-Cert.fault)).
    c.in-Err-Cert.ensures.checks answer (subst (λ (f : BytesFault). IsAnswerTo (Err f) answer) (sym c.in-Err-Cert.field-0-is) same))
    c.reply_to_cert_fault.ensures

pub returns-in-Err-Cert-clause-status : goal.returns-in-Err-Cert-clause-status
returns-in-Err-Cert-clause-status c =
    small_refused (cert_fault_line c.in-Err-Cert.fault) c.reply_to_cert_fault.result c.reply_to_cert_fault.ensures

pub returns-in-Err-Check-clause-checks : goal.returns-in-Err-Check-clause-checks
returns-in-Err-Check-clause-checks c =
    answered_by _ _ c.reply_to_check_fault.result
    (λ (answer : Answer) (same : answer ≡ refused_with (check_fault_line c.in-Err-Check.fault)).
    c.in-Err-Check.ensures.checks answer (subst (λ (f : BytesFault). IsAnswerTo (Err f) answer) (sym c.in-Err-Check.field-0-is) same))
    c.reply_to_check_fault.ensures

pub returns-in-Err-Check-clause-status : goal.returns-in-Err-Check-clause-status
returns-in-Err-Check-clause-status c =
    small_refused (check_fault_line c.in-Err-Check.fault) c.reply_to_check_fault.result c.reply_to_check_fault.ensures
