-- What a call answers of a certificate's text.
use Rattle.std.specs.Prelude.{◌≡◌, ◌≢◌, ℕ, false, List, length, Option, Some, None, Result, Ok, Err, ℤ}
use Rattle.opt_base.specs.declared.verdict.Verdict.{Verdict}
use Rattle.opt_system.specs.Systems.{System}
use Rattle.opt_tree.specs.declared.check_fault.CheckFault.{CheckFault}
use Rattle.opt_tree.specs.declared.check_fault.CheckFault.TheVariants as check
use Rattle.opt_tree.specs.Certificates.{Certificate, listed_point}
use Rattle.opt_tree.specs.Verdicts.{IsTrueVerdict}
use Rattle.opt_cert.specs.declared.cert_fault.CertFault.{CertFault}
use Rattle.opt_cert.specs.declared.cert_fault.CertFault.TheVariants as cert
use Rattle.opt_cert.specs.declared.cert_line.CertLine.{CertLine}
use Rattle.opt_cert.specs.declared.cert_line.CertLine.TheVariants as line
use Rattle.opt_cert.specs.Reading.{Reader, Fails, text_lines, next_line, reader_after, is_last}
use Rattle.opt_cert.specs.Wholes.{IsTextOf}
use Rattle.opt_check.specs.declared.bytes_fault.BytesFault.{BytesFault}
use Rattle.opt_check.specs.declared.bytes_fault.BytesFault.TheVariants.{Cert, Check, OutOfMemory}

-- the fault of a text, or want of memory
abbrev pub of_cert_fault : CertFault → BytesFault
of_cert_fault cert.OutOfMemory = OutOfMemory
of_cert_fault fault = Cert fault

-- the text is that of a certificate
pub record HasCertificate (bytes : List ℕ) : Type 0 where
  pub certificate : Certificate
  pub text : IsTextOf certificate bytes

-- a fault of the text is answered just where the text has it; anything else only of a certificate's text
abbrev pub IsOfText : Result (Verdict × ℕ) BytesFault → List ℕ → Type 0
IsOfText (Ok answer) bytes = HasCertificate bytes
IsOfText (Err (Cert fault)) bytes = text_lines bytes ≡ Err fault
IsOfText (Err (Check fault)) bytes = HasCertificate bytes
IsOfText (Err OutOfMemory) bytes = Unit {0}

-- of a certificate's text the answer is what the certificate shows, with the number of its nodes
abbrev pub IsOfShown : Result (Verdict × ℕ) BytesFault → Result Verdict CheckFault → ℕ → Type 0
IsOfShown (Ok answer) shown nodes = (shown ≡ Ok answer.0) × (answer.1 ≡ nodes)
IsOfShown (Err (Cert fault)) shown nodes = ⊥
IsOfShown (Err (Check fault)) shown nodes = shown ≡ Err fault
IsOfShown (Err OutOfMemory) shown nodes = Unit {0}

-- the text is that of a certificate, and with the point that it lists the verdict is true of the system
pub record IsTrueOfText (s : System) (gap : ℤ) (bytes : List ℕ) (v : Verdict) : Type 0 where
  pub certificate : Certificate
  pub text : IsTextOf certificate bytes
  pub is_true : IsTrueVerdict s gap v (listed_point (length s.cost) certificate.point)

-- want of memory is answered as such alone, and stands in no other fault
abbrev pub IsOwnFault : Result (Verdict × ℕ) BytesFault → Type 0
IsOwnFault (Ok answer) = Unit {0}
IsOwnFault (Err (Cert fault)) = fault ≢ cert.OutOfMemory
IsOwnFault (Err (Check fault)) = fault ≢ check.OutOfMemory
IsOwnFault (Err OutOfMemory) = Unit {0}

-- a line before the last, after which the reader stands
pub record IsPassed (old new : Reader) (l : CertLine) : Type 0 where
  pub next : next_line old ≡ Ok l
  pub not_last : is_last l ≡ false
  pub after : new ≡ reader_after old l

-- the next line, or that it is the last, or why none can stand
abbrev pub IsNext : Reader → Reader → Result (Option CertLine) CertFault → Type 0
IsNext old new (Ok (Some l)) = IsPassed old new l
IsNext old new (Ok None) = next_line old ≡ Ok line.End
IsNext old new (Err fault) = Fails fault (next_line old)
