-- The bytes of a name.
use Rattle.std.specs.Prelude.{ℕ, List, string_bytes}
use Rattle.opt_model.specs.declared.name.Text.{Text}
use Rattle.opt_model.specs.declared.name.Text.TheVariants.{Short, Long}

-- the bytes of a text, wherever it lies
abbrev pub text_bytes : Text → List ℕ
text_bytes (Short short) = short.bytes
text_bytes (Long long) = string_bytes long
