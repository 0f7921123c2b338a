use Rattle.std.proofs.Common.{◌≡◌, ◌++◌, map, take}
use Rattle.opt_cert.specs.Texts.{entry_text}
use Rattle.opt_cert.specs.Writing.{spaced}
use Rattle.opt_cert.proofs.words.add_entries.Given as goal

abbrev pub invariant-loop-entry : goal.invariant-loop-entry
invariant-loop-entry l = l.text.items ≡ l.fn.text.items ++ spaced (map entry_text (take l.entry-index l.entries))
