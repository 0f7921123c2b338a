-- What the readers of every file share.
use Rattle.std.specs.Prelude.{ℕ, List, Result, Ok, Err, if◌then◌else◌}
use Rattle.std.specs.Str.{is_utf8}
use Rattle.opt_base.specs.Refusals.{refusal_of_file}
use Rattle.opt_base.specs.declared.refusal.Refusal.{Refusal}
use Rattle.opt_base.specs.declared.refusal.File.{File}
use Rattle.opt_base.specs.declared.refusal.Kind.TheVariants.{NotUtf8}

-- a file's bytes, which must be UTF-8
abbrev pub text_of : File → List ℕ → Result (List ℕ) Refusal
text_of file bytes = if is_utf8 bytes then Ok bytes else Err (refusal_of_file file NotUtf8)
