use Rattle.std.proofs.Common.{◌≡◌, ◌++◌, map}
use Rattle.opt_tree.specs.Certificates.{entries_of}
use Rattle.opt_cert.specs.Texts.{entry_text}
use Rattle.opt_cert.specs.Writing.{spaced}
use Rattle.opt_cert.proofs.WriteLemmas.{entries_on}
use Rattle.opt_cert.proofs.words.add_values.Given as goal

abbrev pub invariant-loop-i : goal.invariant-loop-i
invariant-loop-i l =
    l.text.items ++ spaced (map entry_text (entries_on l.values l.i)) ≡ l.fn.text.items ++ spaced (map entry_text (entries_of l.values))
