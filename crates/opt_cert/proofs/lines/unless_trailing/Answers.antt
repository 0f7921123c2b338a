use Rattle.std.proofs.Common.{◌≡◌, ◌&&◌, ◌==◌, cond, not, false, true, length, Ok, Err, sym, ap, ◌∙◌}
use Rattle.opt_cert.specs.declared.cert_fault.CertFault.TheVariants.{Trailing}
use Rattle.opt_cert.specs.Numbers.{pieces}
use Rattle.opt_cert.specs.Reading.{has_bytes, is_last}
use Rattle.opt_cert.proofs.ReadLemmas.{has_bytes_rest}
use Rattle.opt_cert.proofs.lines.unless_trailing.Goals as goal

pub returns-else-is_empty : goal.returns-else-is_empty
returns-else-is_empty c =
    let last : is_last c.args.line ≡ true = sym c.is_last.ensures ∙ c.if-is_last.true in
    let more : has_bytes (pieces 10 c.args.rest.now) ≡ true = has_bytes_rest c.args.rest.now ∙ ap not (sym c.is_empty.ensures ∙ c.if-is_empty.false) in
    sym (ap (λ b. cond (b && has_bytes (pieces 10 c.args.rest.now)) (Err Trailing) (Ok c.args.line)) last
    ∙ ap (λ b. cond b (Err Trailing) (Ok c.args.line)) more)
