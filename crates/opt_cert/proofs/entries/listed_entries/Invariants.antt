use Rattle.std.proofs.Common.{◌≡◌, length}
use Rattle.opt_cert.specs.Kinds.{list_on}
use Rattle.opt_cert.proofs.entries.listed_entries.Given as goal

abbrev pub invariant-loop-word : goal.invariant-loop-word
invariant-loop-word l = list_on l.kind l.list l.words ≡ list_on l.fn.kind l.fn.list l.fn.words

abbrev pub decreases-loop-word : goal.decreases-loop-word
decreases-loop-word l = length l.words
