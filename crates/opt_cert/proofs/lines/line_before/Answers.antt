use Rattle.std.proofs.Common.{◌∷◌, sym, ap, ◌∙◌, subst}
use Rattle.opt_cert.specs.declared.cert_fault.CertFault.{CertFault}
use Rattle.opt_cert.specs.Numbers.{pieces}
use Rattle.opt_cert.specs.Forms.{form}
use Rattle.opt_cert.specs.Judging.{judged_line}
use Rattle.opt_cert.specs.Reading.{Fails, next_of}
use Rattle.opt_cert.proofs.ReadLemmas.{line_told, fault_told_at, stands_told}
use Rattle.opt_cert.proofs.lines.line_before.Goals as goal

pub returns-in-Ok-clause-line : goal.returns-in-Ok-clause-line
returns-in-Ok-clause-line c =
    line_told c.args.place c.args.number c.args.text.now c.args.rest.now c.in-Ok.line c.unless_trailing.result c.in-Ok.ensures c.unless_trailing.ensures

pub returns-in-Ok-clause-stands : goal.returns-in-Ok-clause-stands
returns-in-Ok-clause-stands c =
    stands_told c.args.place c.args.number (c.args.text.now ∷ pieces 10 c.args.rest.now) c.unless_trailing.result (returns-in-Ok-clause-line c)

pub returns-in-Err-clause-line : goal.returns-in-Err-clause-line
returns-in-Err-clause-line c =
    let P : CertFault → Type 0 = λ f. Fails f (next_of c.args.place c.args.number (c.args.text.now ∷ pieces 10 c.args.rest.now)) in
    subst P (sym c.fault_at.ensures) (fault_told_at c.args.place c.args.number c.args.text.now c.args.rest.now c.in-Err.fault c.in-Err.ensures)
