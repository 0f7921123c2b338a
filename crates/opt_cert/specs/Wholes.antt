-- A whole text and the certificate of which it is the text.
use Rattle.std.specs.Prelude.{◌≡◌, ◌≢◌, ℕ, List, [], ◌++◌, Result, Ok, Err}
use Rattle.opt_tree.specs.Certificates.{Certificate, IsCertificate}
use Rattle.opt_cert.specs.declared.cert_fault.CertFault.{CertFault}
use Rattle.opt_cert.specs.declared.cert_fault.CertFault.TheVariants.{OutOfMemory}
use Rattle.opt_cert.specs.Texts.{certificate_text}

-- the bytes are the text of this certificate
pub record IsTextOf (c : Certificate) (bytes : List ℕ) : Type 0 where
  pub certificate : IsCertificate c
  pub written : bytes ≡ certificate_text c

-- the bytes are the beginning of a certificate's text, and some are missing
pub record IsFrontOf (c : Certificate) (bytes : List ℕ) : Type 0 where
  pub certificate : IsCertificate c
  pub missing : List ℕ
  pub some : missing ≢ []
  pub written : bytes ++ missing ≡ certificate_text c

-- the bytes go on after a certificate's text
pub record IsLongerThan (c : Certificate) (bytes : List ℕ) : Type 0 where
  pub certificate : IsCertificate c
  pub more : List ℕ
  pub some : more ≢ []
  pub written : bytes ≡ certificate_text c ++ more

-- the bytes are the text of at most one certificate, and then they are not the beginning of another's
pub record IsOwnText (bytes : List ℕ) : Type 0 where
  pub one : (c d : Certificate) → IsTextOf c bytes → IsTextOf d bytes → c ≡ d
  pub whole : (c d : Certificate) → IsTextOf c bytes → IsFrontOf d bytes → ⊥

-- this certificate is answered, unless memory ran out
abbrev pub IsAnswer : Result Certificate CertFault → Certificate → Type 0
IsAnswer (Ok cert) c = cert ≡ c
IsAnswer (Err OutOfMemory) c = Unit {0}
IsAnswer (Err fault) c = ⊥

-- this fault is answered, unless memory ran out
abbrev pub IsRefusal : Result Certificate CertFault → CertFault → Type 0
IsRefusal (Ok cert) fault = ⊥
IsRefusal (Err OutOfMemory) fault = Unit {0}
IsRefusal (Err other) fault = other ≡ fault
